use Rattle.std.proofs.Common.{◌≡◌, ◌∙◌, ◌≤◌, ap, sym, subst, List, ℕ, Option, ◌++◌, take, drop, length, length-append, arith}
use Rattle.std.proofs.lemmas.List.{length-take-le}
use Rattle.bgp_prefix.specs.declared.session.Session.{Session}
use Rattle.mrt.specs.declared.skipped.Skip.{Skip}
use Rattle.mrt.specs.declared.skipped.Skip.TheVariants as skips
use Rattle.mrt.specs.Layout.{Header, IsRecord, IsBgp4mp, header_in}
use Rattle.mrt.specs.Rules.{Judgement, Refused, OfSession, IsJudged, body_limit}
use Rattle.mrt.specs.Capture.{IsPiece}
use Rattle.mrt.specs.Skipped.{judgement_for, piece_for, IsSkipOf}
use Rattle.mrt.specs.Found.{IsJudgedBy}
use Rattle.mrt.proofs.Taken.{held}
use Rattle.mrt.proofs.Places.{whole_record, cut_body, refused_at_end, judged_piece, judged_record, found_as, found_in, header_front, body_front}
use Rattle.mrt.proofs.reading.read_body.Goals as goal

pub returns-then-filled-count-clause-ok : goal.returns-then-filled-count-clause-ok
returns-then-filled-count-clause-ok g c =
    let body = take c.in_ok-filled.filled c.fill.new.buffer in
    let room = length-take-le c.args.header.now.count c.args.buffer.now (omega arith) in
    let len = length-take-le c.in_ok-filled.filled c.fill.new.buffer c.in_ok-filled.ensures.bound in (
      body,
      c.in_ok-filled.ensures.ok,
      λ front header same.
          refused_at_end c.args.session.now c.args.last (front ++ body) (g.S.Source.has_ended c.fill.new.source)
          (c.in_ok-filled.ensures.ended (omega (arith, c.fill.ensures.room)))
          (cut_body c.args.session.now c.args.last front body header
          (subst (λ (h : Header). IsBgp4mp h.kind) same c.requires.kind)
          (subst (λ (h : Header). h.count ≤ body_limit c.args.session.now) same c.requires.count)
          (let count = ap (λ (h : Header). h.count) same in omega arith)),
    )

-- the record of this header whose body was read
judged_as : (session : Session) (last : Option ℕ) (judgement : Judgement) (header also : Header) (body buffer : List ℕ)
    → header ≡ also → buffer ≡ body → IsJudgedBy session last header buffer judgement → IsJudgedBy session last also body judgement
judged_as session last judgement header also body buffer same held judged =
    subst (λ (h : Header). IsJudgedBy session last h body judgement) same
    (subst (λ (b : List ℕ). IsJudgedBy session last header b judgement) held judged)

-- what was told of the header and the body holds of the record
told_as : (skip : Skip) (also header h : Header) (whole body b : List ℕ) → also ≡ header → whole ≡ body → h ≡ header → b ≡ body → IsSkipOf skip h b → IsSkipOf skip also whole
told_as skip also header h whole body b also_is whole_is h_is b_is told =
    subst (λ (x : Header). IsSkipOf skip x whole) (h_is ∙ sym also_is) (subst (λ (y : List ℕ). IsSkipOf skip h y) (b_is ∙ sym whole_is) told)

-- a record that is skipped for this
skipped_piece : (session : Session) (last : Option ℕ) (skip : Skip) (octets : List ℕ) → IsRecord octets → IsJudged session last octets (judgement_for skip)
    → IsPiece session last (piece_for skip octets)
skipped_piece session last skips.OtherKind octets whole judged = record { whole = whole; judged = judged }
skipped_piece session last (skips.OtherSession ends) octets whole judged = record { whole = whole; judged = judged }
skipped_piece session last skips.RefreshReceived octets whole judged = record { whole = whole; judged = judged }
skipped_piece session last skips.RefreshSent octets whole judged = record { whole = whole; judged = judged }

pub returns-in-Skipped-clause-ok : goal.returns-in-Skipped-clause-ok
returns-in-Skipped-clause-ok g c =
    let body = take c.in_ok-filled.filled c.fill.new.buffer in
    let room = length-take-le c.args.header.now.count c.args.buffer.now (omega arith) in
    let len = length-take-le c.in_ok-filled.filled c.fill.new.buffer c.in_ok-filled.ensures.bound in
    let there = held c.fill.new.buffer (drop c.args.header.now.count c.args.buffer.now) c.args.header.now.count c.in_ok-filled.filled
    (omega (arith, c.fill.ensures.room)) (omega (arith, c.fill.ensures.room, c.in_ok-filled.ensures.bound)) in (
      body,
      c.in_ok-filled.ensures.ok,
      λ front header same.
          let count : length body ≡ (header_in front).count = (let e = ap (λ (h : Header). h.count) same in omega (arith, c.fill.ensures.room, c.in_ok-filled.ensures.bound)) in
          let many = length-append front body in (
            skipped_piece c.args.session.now c.args.last c.in-Skipped.skip (front ++ body) (whole_record front body header count)
                (judged_piece c.args.session.now c.args.last (judgement_for c.in-Skipped.skip) front body header
                (subst (λ (h : Header). IsBgp4mp h.kind) same c.requires.kind)
                (subst (λ (h : Header). h.count ≤ body_limit c.args.session.now) same c.requires.count) count
                (judged_as _ _ _ _ _ _ _ same there c.in-Skipped.ensures.0)),
            told_as c.in-Skipped.skip _ _ _ _ _ _ (header_front front body header) (body_front front body header count) same there c.in-Skipped.ensures.1,
            (let e = ap (λ (h : Header). h.count) same in omega (arith, c.record_len.ensures)),
          ),
    )

pub returns-in-Refused-clause-ok : goal.returns-in-Refused-clause-ok
returns-in-Refused-clause-ok g c =
    let body = take c.in_ok-filled.filled c.fill.new.buffer in
    let room = length-take-le c.args.header.now.count c.args.buffer.now (omega arith) in
    let len = length-take-le c.in_ok-filled.filled c.fill.new.buffer c.in_ok-filled.ensures.bound in
    let there = held c.fill.new.buffer (drop c.args.header.now.count c.args.buffer.now) c.args.header.now.count c.in_ok-filled.filled
    (omega (arith, c.fill.ensures.room)) (omega (arith, c.fill.ensures.room, c.in_ok-filled.ensures.bound)) in (
      body,
      c.in_ok-filled.ensures.ok,
      λ front header same more _none.
          let count : length body ≡ (header_in front).count = (let e = ap (λ (h : Header). h.count) same in omega (arith, c.fill.ensures.room, c.in_ok-filled.ensures.bound)) in
          judged_record c.args.session.now c.args.last (Refused c.in-Refused.kind) front body more header
          (subst (λ (h : Header). IsBgp4mp h.kind) same c.requires.kind)
          (subst (λ (h : Header). h.count ≤ body_limit c.args.session.now) same c.requires.count) count
          (judged_as _ _ _ _ _ _ _ same there c.in-Refused.ensures),
    )

pub returns-in-OfSession-clause-ok : goal.returns-in-OfSession-clause-ok
returns-in-OfSession-clause-ok g c =
    let body = take c.in_ok-filled.filled c.fill.new.buffer in
    let room = length-take-le c.args.header.now.count c.args.buffer.now (omega arith) in
    let len = length-take-le c.in_ok-filled.filled c.fill.new.buffer c.in_ok-filled.ensures.bound in
    let there = held c.fill.new.buffer (drop c.args.header.now.count c.args.buffer.now) c.args.header.now.count c.in_ok-filled.filled
    (omega (arith, c.fill.ensures.room)) (omega (arith, c.fill.ensures.room, c.in_ok-filled.ensures.bound)) in (
      body,
      c.in_ok-filled.ensures.ok,
      λ front header same.
          let count : length body ≡ (header_in front).count = (let e = ap (λ (h : Header). h.count) same in omega (arith, c.fill.ensures.room, c.in_ok-filled.ensures.bound)) in
          let found = found_as _ _ _ _ c.in-OfSession.found (sym same) (sym there) c.in-OfSession.ensures.1 in
          let counted = found.count in (
            record {
              whole = whole_record front body header count;
              judged = judged_piece c.args.session.now c.args.last OfSession front body header
                  (subst (λ (h : Header). IsBgp4mp h.kind) same c.requires.kind)
                  (subst (λ (h : Header). h.count ≤ body_limit c.args.session.now) same c.requires.count) count
                  (judged_as _ _ _ _ _ _ _ same there c.in-OfSession.ensures.0);
            },
            found_in front body (c.fill.new.buffer ++ drop c.args.header.now.count c.args.buffer.now) c.in-OfSession.found header count
                (simp length-append (omega (arith, found.count, c.fill.ensures.room, c.in_ok-filled.ensures.bound)))
                (let e = ap (λ (h : Header). h.count) same in
                ap (λ (n : ℕ). take n (c.fill.new.buffer ++ drop c.args.header.now.count c.args.buffer.now)) (omega (arith, found.count)) ∙ there) found,
          ),
    )
