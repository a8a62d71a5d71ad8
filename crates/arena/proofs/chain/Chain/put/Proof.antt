-- `put` makes a node of the block's front, which points to what was the first block. Assumes `Logic`.
use Rattle.std.proofs.Common.{◌≡◌, ◌≤◌, ◌%◌, List, [], ◌∷◌, ◌++◌, refl, sym, ap, ◌∙◌}
use mir.Syntax.{Ty, Fn}
use mir.Val.{Val}
use base.Fraction.{full_share}
use base.Logic.{SProp, emp, never, id⊢}
use base.Fml.{fex, fsep, fat, froom}
use prog.Wp.{Env, WpFn}
use contract.Monad.{fact, fact_i}
use contract.Running.{tables}
use types.Kit.{‵, raw, ◌⊛◌, prop, at_ret, ◌$◌, ◌∵◌, !, qed, by, move, drop, use0, use1, split, regoal, fsplit, fsplit3, fjoin, fpack}
use types.Part.{whole, sub, agg}
use types.Run.{stop, fld, init, of_opd, no_more, and_then, assigns_last, first, blocks, exec, returns, enter}
use types.ByLocal.{alloc_all, pass_all, free_all, look_at, get, get_in, through, sets, env}
use denote.RattleType.{owns}
use denote.RawPtr.{Ptr, block_ptr, in_a_block}
use denote.Memory.{lone}
use denote.Signature.{types_at}
use denote.Steps.{nothing, heard}
use denote.Triple.Entry.{alive}
use denote.Triple.Walked.{Stays, stay_dropped, walk_of}
use Rattle.core.proofs.alloc.Calls.{Goes-blank}
use Rattle.core.proofs.alloc.Shapes.{after}
use Rattle.std_alloc.proofs.ResultValues.{and_tt}
use Rattle.std.proofs.raw_atomic.Walks.{proved_at, leaves}
use Rattle.arena.proofs.Values.{ptr_typed, memory_val, memory_told, chain_val, chain_own, chain_told, chain_made}
use Rattle.arena.proofs.Walks.{slot_at}
use Rattle.arena.proofs.Nodes.{forms}
use Rattle.arena.specs.Octets.{octets_at}
use Rattle.arena.specs.Chain.{Span, span_of, node_type, node_val, behind, block, links}
use Rattle.arena.specs.contracts.chain.Chain as chain
use Rattle.arena.specs.contracts.chain.Node as header
use Rattle.arena.specs.contracts.chain.Chain.put.{ended, clauses}
use Rattle.arena.specs.contracts.chain.Chain.put.Key.{name as #self}
use Rattle.arena.proofs.chain.Chain.put.Statement.{statement}
use Rattle.arena.proofs.chain.Chain.put.Code as compiled

abbrev named_node : Ty
named_node = lone (header.the_row).mir

pub put_spec : {M : Type 1} → statement M
put_spec 𝓤 𝓛 𝓜 𝓡 wired =
    let H = 𝓛.H in
    let En₀ = ended in
    let c = clauses 𝓛 𝓜.mem 𝓡.returns in
    let fn : Fn = compiled.function in
    let stays : Stays En₀.signature.params En₀.kept = (stay_dropped (slot_at 0 En₀.signature.params) En₀.kept.0, (stay_dropped (slot_at 1 En₀.signature.params) En₀.kept.1.0, tt)) in
    let C = (tables 𝓤 H 𝓜 𝓡 𝓡.env).C in
    let Λ = (tables 𝓤 H 𝓜 𝓡 𝓡.env).Λ in
    proved_at 𝓛 En₀ stays c 𝓜 𝓡 (Goes-blank 𝓛 0 (slot_at 0 En₀.signature.params) En₀.kept.0 (λ κs x f. tt), (Goes-blank 𝓛 0 (slot_at 1 En₀.signature.params) En₀.kept.1.0 (λ κs x f. tt), tt)) #self fn (compiled.unfolded 𝓤 H 𝓜 𝓡 wired) (λ z are.
    let Post : Val → SProp 𝓤 = (walk_of 𝓛 En₀ stays c).post z in
    let a = z.0.3 in
    let vss = z.0.4 in
    let x = a.0 in
    let w = a.1.0 in
    let n = w.size in
    let next = x.first in
    let told = chain_told next vss.0 are.0.0 in
    let sized = memory_told w.ptr n vss.1.0 are.1.0.0 in
    let fits = sized.1 in
    let Asked : Type 0 = (16 ≤ n) × (n % 16 ≡ 0) in
    qed 𝓛 ((raw (alive 𝓛 En₀.signature z.0.0 z.0.1) ⊛ ‵ (owns (types_at En₀.signature.params z.0.0) a vss)) ∷ raw (fact 𝓤 Asked) ∷ []) ∵ move ! (1 ∷ []) $ heard ! Asked (λ asked. split ! $ move ! (1 ∷ []) $
    fsplit3 ! $ fsplit ! $ drop ! $ move ! (2 ∷ []) $ drop ! $ move ! (1 ∷ []) $ fsplit ! $ drop ! $
    in_a_block ! w.ptr (λ p. octets_at p n) (id⊢ 𝓤 (never 𝓤)) (λ b o at.
    let s : Span = (b, o, n) in
    use1 𝓛 (‵ (froom node_type b o) ⊛ ‵ (behind s)) (forms 𝓛 b o n asked.0) $ split ! $ use1 𝓛 (‵ (froom named_node b o)) (𝓛.laws.raw-room named_node b o) $
    regoal ! (λ (us : List Val). prop (WpFn 𝓤 H C Λ fn us Post)) (λ i. told i ++ ((sized.0 ∙ ap (λ (p : Ptr). memory_val p n ∷ []) at) i ++ [])) refl $
    enter ! C Λ fn (chain_val next ∷ memory_val (block_ptr b o) n ∷ []) Post $
    alloc_all ! (λ l. pass_all ! refl ((and_tt _ ((ptr_typed next).0), ((ptr_typed next).1, tt)), ((tt, (tt, (record { fits = fits }, tt))), tt)) $ let En : Env 𝓤 𝓛.H = env fn.locals l in
    sets ! (of_opd ! (get_in ! (fld ! refl (stop !)) (sub ! 0 refl (whole !)))) refl (ptr_typed next) $
    sets ! (of_opd ! (get_in ! (fld ! refl (stop !)) (sub ! 0 refl (whole !)))) refl (tt, tt) $
    sets ! (of_opd ! (get_in ! (fld ! refl (stop !)) (sub ! 1 refl (whole !)))) refl (tt, record { fits = fits }) $
    sets ! (of_opd ! (get ! refl)) refl (tt, tt) $
    first ! $ blocks ! $
    sets ! (agg ! (and_then ! (get ! refl) (and_then ! (get ! refl) (no_more !)))) refl (and_tt _ ((ptr_typed next).0), (record { fits = fits }, ((ptr_typed next).1, tt))) $
    assigns_last ! (of_opd ! (get ! refl)) (through ! refl (stop !)) (init ! 0 refl (and_tt _ ((ptr_typed next).0), (record { fits = fits }, ((ptr_typed next).1, tt)))) $
    exec ! C Λ En (after 5 fn.body) (at_ret En Post) $
    sets ! (agg ! (and_then ! (get ! refl) (no_more !))) refl (tt, (tt, tt)) $
    returns ! (look_at ! 0 refl) $ free_all ! refl $
    let here : Ptr = block_ptr b o in
    let y : (chain.the_row).Denot = record { first = here; blocks = s ∷ x.blocks } in
    let Said : Type 0 = s ∷ x.blocks ≡ span_of w.ptr n ∷ x.blocks in
    use1 𝓛 (‵ (fat full_share node_type b o (node_val n next))) (𝓛.laws.at_raw full_share named_node b o (node_val n next)) $ fjoin ! $ move ! (1 ∷ 0 ∷ []) $ move ! (1 ∷ 0 ∷ []) $ fjoin ! $
    fpack ! Ptr (λ (q : Ptr). fsep (block s q) (links x.blocks q)) next $ fpack ! (here ≡ block_ptr b o) (λ _. fex Ptr (λ (q : Ptr). fsep (block s q) (links x.blocks q))) refl $
    use0 𝓛 (‵ (chain_own here (chain_val here ∷ []))) (chain_made 𝓛 here) $ fjoin ! $
    use0 𝓛 (raw (fact 𝓤 Said)) (fact_i 𝓤 Said (emp 𝓤) (ap (λ (p : Ptr). span_of p n ∷ x.blocks) (sym at))) $ nothing ! $ nothing ! $ fjoin ! $ nothing ! $ fjoin ! $ move ! (3 ∷ 0 ∷ 2 ∷ 1 ∷ []) $
    by ! (leaves 𝓛 En₀ stays c z (chain_val here) y (tt, (tt, tt)) (tt, (tt, tt)))))))
