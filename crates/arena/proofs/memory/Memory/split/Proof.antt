-- `split` cuts what it owns in two. Assumes `Logic`.
use Rattle.std.proofs.Common.{◌≡◌, ◌+◌, ◌-◌, ◌≤◌, ◌%◌, List, [], ◌∷◌, ◌++◌, refl, ap, ◌∙◌, arith, w64}
use mir.Syntax.{Fn}
use mir.Val.{Val, vint, vptr}
use base.Logic.{SProp, emp, never, id⊢}
use prog.Wp.{Env, WpFn}
use contract.Monad.{fact, fact_i}
use contract.Running.{tables}
use types.Kit.{‵, raw, ◌⊛◌, prop, at_ret, ◌$◌, ◌∵◌, !, qed, by, move, drop, use0, use1, use2, split, regoal, fsplit, fjoin}
use types.Part.{whole, sub, agg}
use types.Run.{stop, fld, bin, of_opd, no_more, and_then, first, blocks, exec, returns, enter}
use types.ByLocal.{alloc_all, pass_all, free_all, look_at, get, get_in, sets, sets_last, is, env}
use denote.RattleType.{owns}
use denote.RawPtr.{Ptr, block_ptr, in_a_block}
use denote.Signature.{types_at}
use denote.Steps.{nothing, heard}
use denote.Struct.Tuple.{Tuple}
use denote.Triple.Entry.{alive}
use denote.Triple.Walked.{Stays, stay_dropped, walk_of, Goes-dropped}
use Rattle.core.proofs.alloc.Calls.{Goes-blank}
use Rattle.core.proofs.alloc.Shapes.{after}
use Rattle.std_alloc.proofs.Pairs.{pair_of, pair_val}
use Rattle.std.proofs.raw_atomic.Walks.{proved_at, leaves}
use Rattle.arena.proofs.Values.{memory_val, memory_own, memory_told, memory_made}
use Rattle.arena.proofs.Walks.{slot_at}
use Rattle.arena.proofs.Cuts.{cuts, resized}
use Rattle.arena.specs.Octets.{octets_at}
use Rattle.arena.specs.contracts.memory.Memory as block
use Rattle.arena.specs.contracts.memory.Memory.split.{ended, clauses}
use Rattle.arena.specs.contracts.memory.Memory.split.Key.{name as #self}
use Rattle.arena.proofs.memory.Memory.split.Statement.{statement}
use Rattle.arena.proofs.memory.Memory.split.Code as compiled

pub split_spec : {M : Type 1} → statement M
split_spec 𝓤 𝓛 𝓜 𝓡 wired =
    let H = 𝓛.H in
    let En₀ = ended in
    let c₀ = clauses 𝓛 𝓜.mem 𝓡.returns in
    let fn : Fn = compiled.function in
    let stays : Stays En₀.signature.params En₀.kept = (stay_dropped (slot_at 0 En₀.signature.params) En₀.kept.0, (stay_dropped (slot_at 1 En₀.signature.params) En₀.kept.1.0, tt)) in
    let c = c₀ in
    let C = (tables 𝓤 H 𝓜 𝓡 𝓡.env).C in
    let Λ = (tables 𝓤 H 𝓜 𝓡 𝓡.env).Λ in
    proved_at 𝓛 En₀ stays c 𝓜 𝓡 (Goes-blank 𝓛 0 (slot_at 0 En₀.signature.params) En₀.kept.0 (λ κs x f. tt), (Goes-dropped 𝓛 0 (slot_at 1 En₀.signature.params) En₀.kept.1.0 (λ κs x f. refl), tt)) #self fn (compiled.unfolded 𝓤 H 𝓜 𝓡 wired) (λ z are.
    let Post : Val → SProp 𝓤 = (walk_of 𝓛 En₀ stays c).post z in
    let a = z.0.3 in
    let vss = z.0.4 in
    let x = a.0 in
    let n = a.1.0 in
    let m = x.size in
    let told = memory_told x.ptr m vss.0 are.0.0 in
    let Asked : Type 0 = (n % 16 ≡ 0) × (n ≤ m) in
    qed 𝓛 ((raw (alive 𝓛 En₀.signature z.0.0 z.0.1) ⊛ ‵ (owns (types_at En₀.signature.params z.0.0) a vss)) ∷ raw (fact 𝓤 Asked) ∷ []) ∵ move ! (1 ∷ []) $ heard ! Asked (λ asked. split ! $ move ! (1 ∷ []) $
    fsplit ! $ fsplit ! $ drop ! $ move ! (1 ∷ []) $ drop ! $
    in_a_block ! x.ptr (λ p. octets_at p m) (id⊢ 𝓤 (never 𝓤)) (λ b o at.
    regoal ! (λ (us : List Val). prop (WpFn 𝓤 H C Λ fn us Post)) (λ i. (told.0 ∙ ap (λ (p : Ptr). memory_val p m ∷ []) at) i ++ (are.1.0.0 i ++ [])) refl $
    enter ! C Λ fn (memory_val (block_ptr b o) m ∷ vint w64 n ∷ []) Post $
    alloc_all ! (λ l. pass_all ! refl ((tt, (tt, (record { fits = told.1 }, tt))), ((tt, record { fits = are.1.0.1 }), tt)) $ let En : Env 𝓤 𝓛.H = env fn.locals l in
    sets ! (of_opd ! (get_in ! (fld ! refl (stop !)) (sub ! 0 refl (whole !)))) refl (tt, tt) $
    sets ! (of_opd ! (get_in ! (fld ! refl (stop !)) (sub ! 1 refl (whole !)))) refl (tt, record { fits = told.1 }) $
    first ! $ blocks ! $
    sets_last ! (is ! (bin ! (get ! refl) (get ! refl) tt) (ap (vptr b) {y = o + n} (omega arith))) refl (tt, tt) $
    exec ! C Λ En (after 3 fn.body) (at_ret En Post) $
    sets ! (of_opd ! (get ! refl)) refl (tt, tt) $
    sets ! (bin ! (get ! refl) (get ! refl) (omega arith)) refl (tt, record { fits = omega arith }) $
    sets ! (agg ! (and_then ! (get ! refl) (and_then ! (get ! refl) (no_more !)))) refl (tt, (tt, (record { fits = are.1.0.1 }, tt))) $
    sets ! (agg ! (and_then ! (get ! refl) (and_then ! (get ! refl) (no_more !)))) refl (tt, (tt, (record { fits = omega arith }, tt))) $
    sets ! (agg ! (and_then ! (get ! refl) (and_then ! (get ! refl) (no_more !)))) refl (tt, ((tt, (record { fits = are.1.0.1 }, tt)), ((tt, (record { fits = omega arith }, tt)), tt))) $
    returns ! (look_at ! 0 refl) $ free_all ! refl $
    use1 𝓛 (‵ (octets_at (block_ptr b o) (n + (m - n)))) (resized 𝓛 b o m (n + (m - n)) (omega arith)) $
    use1 𝓛 (‵ (octets_at (block_ptr b o) n) ⊛ ‵ (octets_at (block_ptr b (o + n)) (m - n))) (cuts 𝓛 b o n (m - n) asked.0) $ split ! $
    let w : (block.the_row).Denot = record { ptr = block_ptr b o; size = n } in
    let y : (block.the_row).Denot = record { ptr = block_ptr b (o + n); size = m - n } in
    let wv : Val = memory_val (block_ptr b o) n in
    let yv : Val = memory_val (block_ptr b (o + n)) (m - n) in
    let Said : Type 0 = (n ≡ n) × (m - n ≡ m - n) in
    move ! (1 ∷ []) $ use0 𝓛 (‵ (memory_own (block_ptr b (o + n)) (m - n) (yv ∷ []))) (memory_made 𝓛 (block_ptr b (o + n)) (m - n) (omega arith)) $ fjoin ! $
    move ! (1 ∷ []) $ use0 𝓛 (‵ (memory_own (block_ptr b o) n (wv ∷ []))) (memory_made 𝓛 (block_ptr b o) n are.1.0.1) $ fjoin ! $
    use2 𝓛 (‵ ((Tuple (block.the_row ∷ block.the_row ∷ [])).own_val (w, y) (pair_val wv yv ∷ []))) (pair_of 𝓛 (block.the_row) (block.the_row) w y wv yv) $
    use0 𝓛 (raw (fact 𝓤 Said)) (fact_i 𝓤 Said (emp 𝓤) (refl, refl)) $ nothing ! $ nothing ! $ fjoin ! $ nothing ! $ fjoin ! $ move ! (3 ∷ 0 ∷ 2 ∷ 1 ∷ []) $
    by ! (leaves 𝓛 En₀ stays c z (pair_val wv yv) (w, y) (tt, (tt, tt)) (tt, (tt, tt)))))))
