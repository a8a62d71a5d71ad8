-- `taken` reads the first node, and has the block's octets back. Assumes `Logic`.
use Rattle.std.proofs.Common.{◌≡◌, List, [], ◌∷◌, ◌++◌, refl, ap, ◌∙◌}
use mir.Syntax.{Fn}
use mir.Val.{Val}
use base.Logic.{SProp, emp}
use prog.Wp.{Env, WpFn}
use contract.Monad.{fact, fact_i}
use contract.Running.{tables}
use types.Kit.{‵, raw, ◌⊛◌, prop, at_ret, ◌$◌, ◌∵◌, !, qed, by, move, drop, use0, use2, split, rewrite, regoal, fsplit, fjoin, fpick}
use types.Part.{whole, sub, agg, look_in}
use types.Run.{stop, fld, load, of_opd, no_more, and_then, first, blocks, exec, returns, enter, well_typed}
use types.ByLocal.{alloc_all, pass_all, free_all, look_at, get, get_in, through, sets, sets_last, env}
use denote.RattleType.{owns}
use denote.RawPtr.{Ptr, block_ptr}
use denote.Signature.{types_at}
use denote.Steps.{nothing, heard}
use denote.Struct.Tuple.{Tuple}
use denote.Triple.Entry.{alive}
use denote.Triple.Walked.{Stays, stay_dropped, walk_of}
use Rattle.core.proofs.alloc.Calls.{Goes-blank}
use Rattle.core.proofs.alloc.Shapes.{after}
use Rattle.std_alloc.proofs.ResultValues.{and_tt}
use Rattle.std_alloc.proofs.Pairs.{pair_of, pair_val}
use Rattle.std.proofs.raw_atomic.Walks.{proved_at, leaves}
use Rattle.arena.proofs.Values.{ptr_typed, memory_val, memory_own, memory_made, chain_val, chain_own, chain_told, chain_made}
use Rattle.arena.proofs.Walks.{slot_at, by_list}
use Rattle.arena.proofs.Nodes.{dissolves}
use Rattle.arena.specs.Octets.{octets_at}
use Rattle.arena.specs.Chain.{Span, links}
use Rattle.arena.specs.contracts.chain.Chain as chain
use Rattle.arena.specs.contracts.memory.Memory as memory
use Rattle.arena.specs.contracts.chain.Chain.taken.{ended, clauses}
use Rattle.arena.specs.contracts.chain.Chain.taken.Key.{name as #self}
use Rattle.arena.proofs.chain.Chain.taken.Statement.{statement}
use Rattle.arena.proofs.chain.Chain.taken.Code as compiled

pub taken_spec : {M : Type 1} → statement M
taken_spec 𝓤 𝓛 𝓜 𝓡 wired =
    let H = 𝓛.H in
    let En₀ = ended in
    let c = clauses 𝓛 𝓜.mem 𝓡.returns in
    let fn : Fn = compiled.function in
    let stays : Stays En₀.signature.params En₀.kept = (stay_dropped (slot_at 0 En₀.signature.params) En₀.kept.0, tt) in
    let C = (tables 𝓤 H 𝓜 𝓡 𝓡.env).C in
    let Λ = (tables 𝓤 H 𝓜 𝓡 𝓡.env).Λ in
    proved_at 𝓛 En₀ stays c 𝓜 𝓡 (Goes-blank 𝓛 0 (slot_at 0 En₀.signature.params) En₀.kept.0 (λ κs x f. tt), tt) #self fn (compiled.unfolded 𝓤 H 𝓜 𝓡 wired) (λ z are.
    let Post : Val → SProp 𝓤 = (walk_of 𝓛 En₀ stays c).post z in
    let a = z.0.3 in
    let vss = z.0.4 in
    let x = a.0 in
    let told = chain_told x.first vss.0 are.0.0 in
    let Asked : Type 0 = ¬ (x.blocks ≡ []) in
    qed 𝓛 ((raw (alive 𝓛 En₀.signature z.0.0 z.0.1) ⊛ ‵ (owns (types_at En₀.signature.params z.0.0) a vss)) ∷ raw (fact 𝓤 Asked) ∷ []) ∵ move ! (1 ∷ []) $ heard ! Asked (λ asked. split ! $ move ! (1 ∷ []) $
    fsplit ! $ fsplit ! $ drop ! $ move ! (1 ∷ []) $ drop ! $
    by_list x.blocks (λ none. absurd (asked none)) (λ s ss more. rewrite ! 0 (λ (l : List Span). ‵ (links l x.first)) more refl $
    fpick ! (λ at. fpick ! (λ next. fsplit ! $ fsplit ! $
    let b = s.0 in let o = s.1 in let n = s.2 in let here : Ptr = block_ptr b o in
    well_typed ! (λ ok. let fits = ok.1.0.fits in
    regoal ! (λ (us : List Val). prop (WpFn 𝓤 H C Λ fn us Post)) (λ i. (told ∙ ap (λ (p : Ptr). chain_val p ∷ []) at) i ++ []) refl $
    enter ! C Λ fn (chain_val here ∷ []) Post $
    alloc_all ! (λ l. pass_all ! refl ((tt, (tt, tt)), tt) $ let En : Env 𝓤 𝓛.H = env fn.locals l in
    sets ! (of_opd ! (get_in ! (fld ! refl (stop !)) (sub ! 0 refl (whole !)))) refl (tt, tt) $
    first ! $ blocks ! $
    sets ! (of_opd ! (get ! refl)) refl (tt, tt) $
    sets ! (of_opd ! (load ! (through ! refl (fld ! refl (stop !))) (look_in ! 0 (sub ! 0 refl (whole !))))) refl (tt, record { fits = fits }) $
    sets ! (of_opd ! (load ! (through ! refl (fld ! refl (stop !))) (look_in ! 0 (sub ! 1 refl (whole !))))) refl (ptr_typed next) $
    sets ! (agg ! (and_then ! (get ! refl) (and_then ! (get ! refl) (no_more !)))) refl (tt, (tt, (record { fits = fits }, tt))) $
    sets ! (agg ! (and_then ! (get ! refl) (no_more !))) refl (and_tt _ ((ptr_typed next).0), ((ptr_typed next).1, tt)) $
    sets_last ! (agg ! (and_then ! (get ! refl) (and_then ! (get ! refl) (no_more !)))) refl (and_tt _ (and_tt _ ((ptr_typed next).0)), ((tt, (record { fits = fits }, tt)), (((ptr_typed next).1, tt), tt))) $
    exec ! C Λ En (after 2 fn.body) (at_ret En Post) $
    sets ! (of_opd ! (get ! refl)) refl (and_tt _ (and_tt _ ((ptr_typed next).0)), ((tt, (record { fits = fits }, tt)), (((ptr_typed next).1, tt), tt))) $
    returns ! (look_at ! 0 refl) $ free_all ! refl $
    use2 𝓛 (‵ (octets_at here n)) (dissolves 𝓛 s next) $
    let w : (memory.the_row).Denot = record { ptr = here; size = n } in
    let y : (chain.the_row).Denot = record { first = next; blocks = ss } in
    let wv : Val = memory_val here n in
    let yv : Val = chain_val next in
    let Said : Type 0 = x.blocks ≡ s ∷ ss in
    use0 𝓛 (‵ (memory_own here n (wv ∷ []))) (memory_made 𝓛 here n fits) $ fjoin ! $
    move ! (1 ∷ []) $ use0 𝓛 (‵ (chain_own next (yv ∷ []))) (chain_made 𝓛 next) $ fjoin ! $ move ! (1 ∷ 0 ∷ []) $
    use2 𝓛 (‵ ((Tuple (memory.the_row ∷ chain.the_row ∷ [])).own_val (w, y) (pair_val wv yv ∷ []))) (pair_of 𝓛 (memory.the_row) (chain.the_row) w y wv yv) $
    use0 𝓛 (raw (fact 𝓤 Said)) (fact_i 𝓤 Said (emp 𝓤) more) $ nothing ! $ nothing ! $ fjoin ! $ move ! (3 ∷ 0 ∷ 2 ∷ 1 ∷ []) $
    by ! (leaves 𝓛 En₀ stays c z (pair_val wv yv) (w, y) (tt, tt) (tt, tt)))))))))
