use Rattle.std.proofs.Common.{◌≡◌, ◌∙◌, ap, sym, List, [], ℕ, ◌++◌, take, drop, append_assoc, append-nil}
use Rattle.std.proofs.lemmas.List.{take-append-drop}
use Rattle.std.proofs.lemmas.Result.{err_from_is_err_and}
use Rattle.mrt.proofs.sink.write_all.Goals as goal

-- what was taken, with the front of the rest, and what is behind it
one_write_more : (octets taken rest behind : List ℕ) (count : ℕ) → octets ≡ taken ++ rest → behind ≡ drop count rest → octets ≡ (taken ++ take count rest) ++ behind
one_write_more octets taken rest behind count whole back =
    whole
    ∙ ap (λ xs. taken ++ xs) (sym (take-append-drop count rest))
    ∙ sym (append_assoc taken (take count rest) (drop count rest))
    ∙ ap (λ xs. (taken ++ take count rest) ++ xs) (sym back)

pub returns-in_err-count-clause-err : goal.returns-in_err-count-clause-err
returns-in_err-count-clause-err g c =
    let p = err_from_is_err_and c.from_residual.result c.from_residual.ensures.1 in
    let so_far = c.loop-rest.invariant.0 in
    rw (p.1) record {
      taken = so_far.0;
      rest = c.loop-rest.rest.now;
      whole = so_far.1;
      took = rw append-nil at (g.met.S.Sink.joined c.args.sink.now c.loop-rest.sink c.write.new.self so_far.0 [] so_far.2 c.in_err-count.ensures.err);
    }

pub loop-rest-preserved : goal.loop-rest-preserved
loop-rest-preserved g c =
    let so_far = c.loop-rest.invariant.0 in
    let front = take c.in_ok-count.count c.loop-rest.rest.now in (
      (
        so_far.0 ++ front,
        one_write_more c.args.octets.now so_far.0 c.loop-rest.rest.now _ c.in_ok-count.count so_far.1 c.split_at.ensures.back,
        g.met.S.Sink.joined c.args.sink.now c.loop-rest.sink c.write.new.self so_far.0 front so_far.2 c.in_ok-count.ensures.ok,
      ),
      cc (c.in_ok-count.ensures.failures),
    )
