use Rattle.std.proofs.Common.{◌≡◌, ◌∙◌, ap, subst, ◌++◌, length, length-append, arith}
use Rattle.mrt.specs.Layout.{Header, IsBgp4mp, header_in}
use Rattle.mrt.proofs.Places.{whole_record, other_type, cut_other, refused_at_end}
use Rattle.mrt.proofs.reading.skip_body.Goals as goal

pub returns-then-branch-clause-ok : goal.returns-then-branch-clause-ok
returns-then-branch-clause-ok g c =
    let (body, gave, passed) = c.in_ok-pass_over.ensures.passed in
    let all = rw c.if-branch.true at passed in (
      body,
      gave,
      λ session last front header same.
          let count : length body ≡ (header_in front).count = all ∙ ap (λ (h : Header). h.count) same in
          let many = length-append front body in (
            record {
              whole = whole_record front body header count;
              judged = other_type session last front body header (subst (λ (h : Header). ¬ IsBgp4mp h.kind) same c.requires.other) count;
            },
            tt,
            omega (arith, c.record_len.ensures),
          ),
    )

pub returns-else-branch-clause-ok : goal.returns-else-branch-clause-ok
returns-else-branch-clause-ok g c =
    let (body, gave, passed) = c.in_ok-pass_over.ensures.passed in
    let some = rw c.if-branch.false at passed in (
      body,
      gave,
      λ session last front header same.
          refused_at_end session last (front ++ body) (g.S.Source.has_ended c.pass_over.new.source) some.1
          (cut_other session last front body header (subst (λ (h : Header). ¬ IsBgp4mp h.kind) same c.requires.other)
          (let e = ap (λ (h : Header). h.count) same in omega (arith, some.0))),
    )
