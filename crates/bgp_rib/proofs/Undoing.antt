-- What a write notes, and what its undoing gives.
use Rattle.std.proofs.Common.{◌≡◌, Bool, true, false, cond, List, [], ◌∷◌, ◌++◌, Option, None, Some, IsSome, inl, inr, ◌⊎◌, refl, sym, ap, subst, ◌∙◌}
use Rattle.std.proofs.lemmas.List.Elements.{All-push}
use Rattle.std.proofs.lemmas.Cmp.{tied_itself}
use Rattle.std.specs.BTreeMap.{insert_entry, is_at}
use Rattle.std.specs.Map.{lookup, update}
use Rattle.std.specs.Option.{option_flatten}
use Rattle.std.specs.Cmp.{Equal-is}
use Rattle.std.specs.Ordering.{is_eq}
use Rattle.bgp_update.specs.declared.destination.Destination.{Destination}
use Rattle.bgp_rib.specs.DestinationOrder.{destination_cmp, destination_eq}
use Rattle.bgp_rib.specs.Rooms.{route_to, undone, HasRoom, LeadsBack, HasEach}
use Rattle.bgp_rib.proofs.MapLaws.{found_put}
use Rattle.bgp_rib.proofs.DestinationKeys.{destinations_total, exact_destinations, same_itself, same_tie, equal_destinations}

module _ {V : Type 0} where
  -- one note more
  pub undone_more : (log : List (Destination × Option V)) (k : Destination) (v : Option V) (f : Destination → Option V) (q : Destination)
      → undone (log ++ (k, v) ∷ []) f q ≡ undone log (update destination_eq f k v) q
  undone_more [] k v f q = refl
  undone_more (e ∷ log) k v f q = ap (cond (destination_eq e.0 q) e.1) (undone_more log k v f q)

  pub undone_same : (log : List (Destination × Option V)) (f g : Destination → Option V) → ((q : Destination) → f q ≡ g q) → (q : Destination)
      → undone log f q ≡ undone log g q
  undone_same [] f g h q = h q
  undone_same (e ∷ log) f g h q = ap (cond (destination_eq e.0 q) e.1) (undone_same log f g h q)

  -- the entries es have x at k, and are else as the entries ds
  abbrev pub IsWrite : List (Destination × Option V) → Destination → Option V → List (Destination × Option V) → Type 0
  IsWrite ds k x es = (q : Destination) → lookup (is_at (destination_cmp q)) es ≡ cond (is_eq (destination_cmp k q)) (Some x) (lookup (is_at (destination_cmp q)) ds)

  -- a put is a write
  pub put_writes : (ds : List (Destination × Option V)) (k : Destination) (x : Option V) (es : List (Destination × Option V)) → es ≡ insert_entry destination_cmp ds k x → IsWrite ds k x es
  put_writes ds k x es e q = ap (lookup (is_at (destination_cmp q))) e ∙ found_put destinations_total exact_destinations q k x ds

  pub put_is : (ds : List (Destination × Option V)) (k : Destination) (x : Option V) (es : List (Destination × Option V)) → es ≡ insert_entry destination_cmp ds k x
      → lookup (is_at (destination_cmp k)) es ≡ Some x
  put_is ds k x es e = put_writes ds k x es e k ∙ ap (λ r. cond (is_eq r) (Some x) (lookup (is_at (destination_cmp k)) ds)) (tied_itself destinations_total k)

  flatten_by : (a b : Bool) (x : Option V) (y : Option (Option V)) → a ≡ b → option_flatten (cond a (Some x) y) ≡ cond b x (option_flatten y)
  flatten_by true b x y e = rw (sym e) refl
  flatten_by false b x y e = rw (sym e) refl

  pub written : (ds : List (Destination × Option V)) (k : Destination) (x : Option V) (es : List (Destination × Option V)) → IsWrite ds k x es → (q : Destination)
      → route_to es q ≡ update destination_eq (route_to ds) k x q
  written ds k x es w q = ap option_flatten (w q) ∙ flatten_by (is_eq (destination_cmp k q)) (destination_eq k q) x (lookup (is_at (destination_cmp q)) ds) (sym (same_tie k q))

  restored_by : (f : Destination → Option V) (k q : Destination) (x : Option V) (b : Bool) → destination_eq k q ≡ b → cond b (f k) (cond b x (f q)) ≡ f q
  restored_by f k q x true e = ap f (equal_destinations k q e)
  restored_by f k q x false e = refl

  restored : (ds : List (Destination × Option V)) (k : Destination) (x : Option V) (es : List (Destination × Option V)) → IsWrite ds k x es → (q : Destination)
      → update destination_eq (route_to es) k (route_to ds k) q ≡ route_to ds q
  restored ds k x es w q = ap (cond (destination_eq k q) (route_to ds k)) (written ds k x es w q) ∙ restored_by (route_to ds) k q x (destination_eq k q) refl

  -- a write that is noted leads back
  pub write_leads_back : (log ds : List (Destination × Option V)) (k : Destination) (x : Option V) (es : List (Destination × Option V)) → IsWrite ds k x es
      → LeadsBack (log ++ (k, route_to ds k) ∷ []) es log ds
  write_leads_back log ds k x es w q =
      undone_more log k (route_to ds k) (route_to es) q
      ∙ undone_same log (update destination_eq (route_to es) k (route_to ds k)) (route_to ds) (restored ds k x es w) q

  -- a note written back
  pub note_undone : (log ds : List (Destination × Option V)) (k : Destination) (x : Option V) (es : List (Destination × Option V)) → IsWrite ds k x es
      → (q : Destination) → undone log (route_to es) q ≡ undone (log ++ (k, x) ∷ []) (route_to ds) q
  note_undone log ds k x es w q =
      undone_same log (route_to es) (update destination_eq (route_to ds) k x) (written ds k x es w) q
      ∙ sym (undone_more log k x (route_to ds) q)

  -- a write takes no entry away
  still : (b : Bool) (x : Option V) (y : Option (Option V)) → IsSome y → IsSome (cond b (Some x) y)
  still true x y h = refl
  still false x y h = h

  pub still_each : (log ds : List (Destination × Option V)) (k : Destination) (x : Option V) (es : List (Destination × Option V)) → IsWrite ds k x es
      → HasEach log ds → HasEach log es
  still_each log ds k x es w h i d lt = subst IsSome (sym (w _)) (still (is_eq (destination_cmp k _)) x (lookup (is_at (destination_cmp _)) ds) (h i d lt))

  pub each_more : (log ds : List (Destination × Option V)) (k : Destination) (x : Option V) (es : List (Destination × Option V)) (v : Option V) → IsWrite ds k x es
      → lookup (is_at (destination_cmp k)) es ≡ Some x → HasEach log ds → HasEach (log ++ (k, v) ∷ []) es
  each_more log ds k x es v w here h =
      All-push (λ e. IsSome (lookup (is_at (destination_cmp e.0)) es)) log (k, v) (still_each log ds k x es w h) (rw here refl)

  -- the room that a route leaves which is hidden
  hid_by : (ds : List (Destination × Option V)) (k q : Destination) (b : Bool) → is_eq (destination_cmp k q) ≡ b
      → cond b (Some None) (lookup (is_at (destination_cmp q)) ds) ≡ Some None → HasRoom destination_cmp ds q ⊎ (destination_eq q k ≡ true)
  hid_by ds k q true t h = inr (subst (λ z. destination_eq q z ≡ true) (sym (exact_destinations k q ((Equal-is _).0 t))) (same_itself q))
  hid_by ds k q false t h = inl h

  pub hid_room : (ds : List (Destination × Option V)) (k : Destination) (es : List (Destination × Option V)) → es ≡ insert_entry destination_cmp ds k None
      → (q : Destination) → HasRoom destination_cmp es q → HasRoom destination_cmp ds q ⊎ (destination_eq q k ≡ true)
  hid_room ds k es e q h = hid_by ds k q (is_eq (destination_cmp k q)) refl (sym (put_writes ds k None es e q) ∙ h)
