-- The connections, once a segment more is taken.
use Rattle.std.proofs.Common.{◌≡◌, ◌<◌, ◌∙◌, ℕ, Some, None, Option, Bool, true, false, cond, List, [], ◌∷◌, ◌++◌, refl, sym, ap, length, get_or, set, subst}
use Rattle.streams.specs.declared.connections.Connections.{Connections}
use Rattle.streams.specs.declared.gathering.Gathering.{Gathering}
use Rattle.streams.specs.Passed.{Segment}
use Rattle.streams.specs.History.{start_of}
use Rattle.streams.specs.Connections.{last_index, is_between, begins, has_others, first_in, put_at, connections_of}
use Rattle.streams.specs.Gatherings.{IsOf, HoldsConnection, start_in}
use Rattle.streams.specs.Held.{passes, IsOne, AreEach, HoldsConnections}
use Rattle.streams.proofs.Numbering.{each_index, each_at, each_set, each_push}
use Rattle.streams.proofs.Taking.{start_is}
use Rattle.std.proofs.lemmas.List.{get_or_read}

pub no_connections : connections_of [] ≡ []
unfolding connections_of
no_connections = refl

pub connections_more : (s : Segment) (before : List Segment) → connections_of (s ∷ before) ≡ put_at s (connections_of before) (last_index (is_between s) (connections_of before))
unfolding connections_of
connections_more s before = refl

-- a connection that has taken one segment more
one_more : {Z : Type 0} (s : Segment) (segments : List Segment) (g later : Gathering Z) → IsOne segments g
    → ((before : List Segment) → HoldsConnection before g → HoldsConnection (s ∷ before) later)
    → ((first : Segment) → IsOf first g → IsOf first later)
    → IsOne (s ∷ segments) later
one_more s [] g later one holds of = absurd one
one_more s (last ∷ before) g later one holds of = (of (first_in last before) one.0, holds (last ∷ before) one.1)

begins_is : {Z : Type 0} (s : Segment) (segments : List Segment) (g : Gathering Z) → IsOne segments g → begins s (start_of s.sender segments) (has_others segments) ≡ begins s (start_in s.sender g) g.has_others
begins_is s [] g one = absurd one
begins_is s (last ∷ before) g one =
    ap (λ (o : Option ℕ). begins s o (has_others (last ∷ before))) (sym (start_is s.sender (last ∷ before) g one.1))
    ∙ ap (begins s (start_in s.sender g)) (sym one.1.has_others)

-- two reads of one place
read_twice : {X : Type 0} (xs : List X) (i : ℕ) (x y : X) → i < length xs → x ≡ get_or xs i x → y ≡ get_or xs i y → x ≡ y
read_twice xs i x y lt is it = get_or_read xs i x lt is x ∙ sym (get_or_read xs i y lt it x)

-- the segment is of the last connection between its ports
pub continued : {Z : Type 0} (s : Segment) (before : List Segment) (old new : Connections Z) (i : ℕ) (seen g later : Gathering Z) → HoldsConnections before old
    → Some i ≡ last_index (passes s) old.list.items → i < length old.list.items → seen ≡ get_or old.list.items i seen → g ≡ get_or old.list.items i g
    → false ≡ begins s (start_in s.sender seen) seen.has_others
    → ((b : List Segment) → HoldsConnection b g → HoldsConnection (s ∷ b) later)
    → ((first : Segment) → IsOf first g → IsOf first later)
    → new.list.items ≡ set old.list.items i later
    → HoldsConnections (s ∷ before) new
continued s before old new i seen g later holds found lt saw is stays holds_more of items =
    let goes : begins s (start_in s.sender g) g.has_others ≡ false = ap (λ x. begins s (start_in s.sender x) x.has_others) (read_twice old.list.items i g seen lt is saw) ∙ sym stays in
    let cs = connections_of before in
    let gs = old.list.items in
    let one : IsOne (get_or cs i []) g = subst (IsOne (get_or cs i [])) (sym is) (each_at cs gs i g holds.each lt) in
    let at : last_index (is_between s) cs ≡ Some i = each_index s cs gs holds.each ∙ sym found in
    let told : connections_of (s ∷ before) ≡ set cs i (s ∷ get_or cs i []) =
    connections_more s before ∙ ap (put_at s cs) at
    ∙ ap (λ (t : Bool). cond t (cs ++ (s ∷ []) ∷ []) (set cs i (s ∷ get_or cs i []))) (begins_is s (get_or cs i []) g one ∙ goes) in
    record {
      each = subst (λ c. AreEach c new.list.items) (sym told) (subst (AreEach (set cs i (s ∷ get_or cs i []))) (sym items)
          (each_set cs gs i (s ∷ get_or cs i []) later holds.each (one_more s (get_or cs i []) g later one holds_more of)));
    }

pushed : {Z : Type 0} (s : Segment) (before : List Segment) (old new : Connections Z) (later : Gathering Z) → HoldsConnections before old
    → connections_of (s ∷ before) ≡ connections_of before ++ (s ∷ []) ∷ []
    → IsOf s later → HoldsConnection (s ∷ []) later
    → new.list.items ≡ old.list.items ++ later ∷ []
    → HoldsConnections (s ∷ before) new
pushed s before old new later holds told of one items =
    record {
      each = subst (λ c. AreEach c new.list.items) (sym told) (subst (AreEach (connections_of before ++ (s ∷ []) ∷ [])) (sym items)
          (each_push (connections_of before) old.list.items (s ∷ []) later holds.each (of, one)));
    }

-- no connection goes between its ports
pub first_between : {Z : Type 0} (s : Segment) (before : List Segment) (old new : Connections Z) (later : Gathering Z) → HoldsConnections before old
    → None ≡ last_index (passes s) old.list.items
    → IsOf s later → HoldsConnection (s ∷ []) later
    → new.list.items ≡ old.list.items ++ later ∷ []
    → HoldsConnections (s ∷ before) new
first_between s before old new later holds found of one items =
    pushed s before old new later holds
    (connections_more s before ∙ ap (put_at s (connections_of before)) (each_index s (connections_of before) old.list.items holds.each ∙ sym found))
    of one items

-- it begins another connection than the last between its ports
pub begun : {Z : Type 0} (s : Segment) (before : List Segment) (old new : Connections Z) (i : ℕ) (g later : Gathering Z) → HoldsConnections before old
    → Some i ≡ last_index (passes s) old.list.items → i < length old.list.items → g ≡ get_or old.list.items i g
    → true ≡ begins s (start_in s.sender g) g.has_others
    → IsOf s later → HoldsConnection (s ∷ []) later
    → new.list.items ≡ old.list.items ++ later ∷ []
    → HoldsConnections (s ∷ before) new
begun s before old new i g later holds found lt is leaves of one items =
    let cs = connections_of before in
    let held : IsOne (get_or cs i []) g = subst (IsOne (get_or cs i [])) (sym is) (each_at cs old.list.items i g holds.each lt) in
    pushed s before old new later holds
    (connections_more s before ∙ ap (put_at s cs) (each_index s cs old.list.items holds.each ∙ sym found)
    ∙ ap (λ (t : Bool). cond t (cs ++ (s ∷ []) ∷ []) (set cs i (s ∷ get_or cs i []))) (begins_is s (get_or cs i []) g held ∙ sym leaves))
    of one items
