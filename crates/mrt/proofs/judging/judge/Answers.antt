use Rattle.std.proofs.Common.{◌≡◌, List, ℕ, Option, drop, subst, ap, refl, ◌∙◌, None, ◌⊎◌, ◌≢◌, inr}
use Rattle.bgp_prefix.specs.declared.session.Session.{Session}
use Rattle.mrt.specs.declared.layout.Fields.{Fields}
use Rattle.mrt.specs.Layout.{Header, content_in, shown_in, form_of}
use Rattle.mrt.specs.Rules.{Judgement, Holds, FirstSays, content_rules}
use Rattle.mrt.specs.Found.{header_value, place_with, shown_as, AreFields, IsJudgedBy}
use Rattle.mrt.proofs.judging.judge.Goals as goal

-- what the rules on contents say of a record with the session's addresses
of_content : (session : Session) (last : Option ℕ) (header : Header) (body content : List ℕ) (fields : Fields) (judgement : Judgement) → AreFields header body fields
    → (form_of header.subtype ≡ None → ⊥) → ((fields.ends.peer ≢ session.peer) ⊎ (fields.ends.local ≢ session.local) → ⊥)
    → content ≡ content_in header body → FirstSays (Holds session last (place_with header body content)) content_rules judgement
    → IsJudgedBy session last header body judgement
of_content session last header body content fields judgement are known others same says =
    inr (
      known,
      inr (
        are.there,
        inr (
          λ other. others (rw (are.peer, are.local) other),
          subst (λ (x : List ℕ). FirstSays (Holds session last (place_with header body x)) content_rules judgement) same says,
        ),
      ),
    )

pub returns-in-Shown : goal.returns-in-Shown
returns-in-Shown c =
    let fields = c.in-Some-read_fields.ensures.some in
    let content : c.split_at.result.1.now ≡ content_in (header_value c.args.header.now) c.args.body.now =
    c.split_at.ensures.back ∙ ap (λ (n : ℕ). drop n c.args.body.now) fields.content_at in
    let is = c.in-Shown.ensures c.args.body.now in (
      of_content _ _ _ _ _ _ _ fields (λ e. absurd (cc)) (λ other. absurd (cc (c.is_of_other_session.ensures.1 other))) content is.0,
      record {
        count = refl;
        content_at = fields.content_at;
        within = fields.within;
        second = refl;
        micro = fields.micro;
        shown =
            subst (λ (x : List ℕ). shown_as c.args.header.now.second c.in-Shown.shows x ≡ shown_in (header_value c.args.header.now) x)
            content is.1;
      },
    )

pub returns-in-Skipped : goal.returns-in-Skipped
returns-in-Skipped c =
    let fields = c.in-Some-read_fields.ensures.some in
    let content : c.split_at.result.1.now ≡ content_in (header_value c.args.header.now) c.args.body.now =
    c.split_at.ensures.back ∙ ap (λ (n : ℕ). drop n c.args.body.now) fields.content_at in
    let is = c.in-Skipped.ensures c.args.body.now in (
      of_content _ _ _ _ _ _ _ fields (λ e. absurd (cc)) (λ other. absurd (cc (c.is_of_other_session.ensures.1 other))) content is.0,
      is.1,
    )

pub returns-in-Refused : goal.returns-in-Refused
returns-in-Refused c =
    let fields = c.in-Some-read_fields.ensures.some in
    let content : c.split_at.result.1.now ≡ content_in (header_value c.args.header.now) c.args.body.now =
    c.split_at.ensures.back ∙ ap (λ (n : ℕ). drop n c.args.body.now) fields.content_at in
    let is = c.in-Refused.ensures c.args.body.now in
    of_content _ _ _ _ _ _ _ fields (λ e. absurd (cc)) (λ other. absurd (cc (c.is_of_other_session.ensures.1 other))) content is
