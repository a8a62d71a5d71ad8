use Rattle.std.proofs.Common.{◌∙◌, ◌+◌, ◌≡◌, [], ℕ, IfSome, IsTrue, ap, inl, length, refl, subst, sym}
use Rattle.mrt.specs.Reader.{shown_of}
use Rattle.bgp_explain.specs.Fractions.{AreNamesAfter, progress_names}
use Rattle.bgp_explain.proofs.FractionsKept.{as_named, found_named}
use Rattle.bgp_explain.proofs.Keeping.{is_none, none_yet, stays}
use Rattle.bgp_explain.proofs.so_far.Progress.advance.Goals as goal

pub returns-then-is_some-clause-next : goal.returns-then-is_some-clause-next
returns-then-is_some-clause-next g c = λ records at.
    stays (g.T.Tracker.stands_for c.args.tracker.now) c.args.config.now records (shown_of c.args.shown.now) c.args.self.now c.args.self.now.stop
    (sym c.is_some.ensures ∙ c.if-is_some.true) at

pub returns-then-not-branch-clause-next : goal.returns-then-not-branch-clause-next
returns-then-not-branch-clause-next g c = λ records at.
    let none = is_none c.args.self.now.stop (sym c.is_some.ensures ∙ c.if-is_some.false) in
    let so = none_yet (g.T.Tracker.stands_for c.args.tracker.now) c.args.config.now records c.args.self.now c.args.self.now.stop none at in
    let may = c.in_ok-take.ensures.alive c.args.config.now records so.0 in
    let kept = c.in_ok-take.ensures.kept c.args.config.now records so.0 (λ t. let no = c.if-not-branch.true in cc) in record {
      before = records;
      shown = shown_of c.args.shown.now;
      after = [];
      split = refl;
      begins = so.1;
      stops = λ more.
          let t : IsTrue c.in_ok-take.field-0 = may.1 more in
          let no = c.if-not-branch.true in cc;
      tells = record { count = so.2.count; told = so.2.told; moments = so.2.moments; sending = so.2.sending; tally = so.2.tally; seen = so.2.seen; last_message = so.2.last_message };
      found = c.find-found.ensures.found records kept so.2;
    }

pub returns-then-is_some-clause-names : goal.returns-then-is_some-clause-names
returns-then-is_some-clause-names g c = λ records at. as_named (length records + 1) (progress_names c.args.self.now)

pub returns-then-not-branch-clause-names : goal.returns-then-not-branch-clause-names
returns-then-not-branch-clause-names g c = λ records at.
    let none = is_none c.args.self.now.stop (sym c.is_some.ensures ∙ c.if-is_some.false) in
    let so = none_yet (g.T.Tracker.stands_for c.args.tracker.now) c.args.config.now records c.args.self.now c.args.self.now.stop none at in
    let number = ap (λ (n : ℕ). n + 1) so.2.count in record {
      told_by = inl refl;
      last_received = inl refl;
      notification = inl refl;
      impossible = found_named (length records + 1) c.args.self.now.stop c.find-found.result none
          (subst (λ (n : ℕ). IfSome c.find-found.result (λ found. found.impossible.number ≡ n)) number c.find-found.ensures.number);
    }

pub returns-clause-names : goal.returns-clause-names
returns-clause-names g c = λ records at.
    let none = is_none c.args.self.now.stop (sym c.is_some.ensures ∙ c.if-is_some.false) in
    let so = none_yet (g.T.Tracker.stands_for c.args.tracker.now) c.args.config.now records c.args.self.now c.args.self.now.stop none at in
    subst (λ (n : ℕ). AreNamesAfter n (progress_names c.args.self.now) (progress_names c.keep.new.self)) (ap (λ (n : ℕ). n + 1) so.2.count) c.keep.ensures.names
