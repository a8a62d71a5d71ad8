-- The lines of a reason tell all that may follow, and nothing else.
use Rattle.std.proofs.Common.{◌≡◌, ◌⊎◌, ◌≤◌, ◌<◌, ◌^◌, ◌||◌, ◌∷◌, ℕ, zero, suc, Bool, true, false, IsTrue, IfSome, IsSomeAnd, is_some, get_or, List, [], Option, None, Some, length, refl, inl, inr, arith}
use Rattle.std.specs.Bool.{then_some}
use Rattle.byteorder.specs.Endian.{big_bytes}
use Rattle.bgp_prefix.specs.Shown.{ShownRecord, Received, Sent, Changed}
use Rattle.bgp_wire.specs.declared.header.HeaderFaults.{HeaderFaults}
use Rattle.bgp_wire.specs.Framing.{IsFrame}
use Rattle.bgp_wire.specs.Message.{message_octets}
use Rattle.bgp_wire.specs.Verdict.{Names as NamesHeaderError}
use Rattle.bgp_open.specs.declared.config.Config.{Config}
use Rattle.bgp_open.specs.declared.link.Link.{Link}
use Rattle.bgp_open.specs.declared.subcodes.OpenSubcodes.{OpenSubcodes}
use Rattle.bgp_open.specs.Link.{link_of}
use Rattle.bgp_open.specs.Open.{open_of}
use Rattle.bgp_open.specs.OpenSubcodes.{Names as NamesOpenError}
use Rattle.bgp_open.specs.OwnOpen.{own_fields}
use Rattle.bgp_open.specs.Written.{notification_octets, open_octets}
use Rattle.bgp_open.proofs.OwnOpens.{is_frame, octets-own_open, own_open}
use Rattle.bgp_open.proofs.WrittenNotification.{notification_frame, written_notification}
use Rattle.bgp_update.specs.declared.subcodes.Subcodes.{Subcodes}
use Rattle.bgp_update.specs.Laws.{HasCleanUpdate, empty_update}
use Rattle.bgp_update.specs.Subcodes.{HasSubcode}
use Rattle.bgp_machine.specs.declared.fsm.Fsm.{Fsm}
use Rattle.bgp_machine.specs.declared.fsm.Fsm.TheVariants as fsms
use Rattle.bgp_machine.specs.Lists.{Each, Has}
use Rattle.bgp_machine.specs.State.{number_of}
use Rattle.bgp_machine.specs.Want.{Tells, limit_on}
use Rattle.bgp_why_parts.specs.FsmErrors.{FsmErrors}
use Rattle.bgp_why_parts.specs.DeclaredPossible.{Possible}
use Rattle.bgp_why_parts.specs.Asked.{AreAsked}
use Rattle.bgp_why_parts.specs.Possible.{ArePossible, HasFsmError, HasState, IsAmong, IsCapturable, IsCleanOn, IsNotified}
use Rattle.bgp_why_parts.specs.Sending.{sending_link}
use Rattle.bgp_why_parts.proofs.OneForAll.{alive_frame, alive_heard, alive_is_message, one_message}
use Rattle.bgp_why.specs.declared.items.Item.{Item}
use Rattle.bgp_why.specs.declared.items.Item.TheVariants as items
use Rattle.bgp_why.specs.Items.{all_items, expiry_item, has_fsm_error, has_header_error, has_open_error, has_update_error, those_possible}
use Rattle.bgp_why.specs.Lines.{IsOfItem, LinesTellAll, SaysItem}

never : false ≡ true → ⊥
never e = cc

-- ---- some item of a list that has gaps

module _ (P : Item → Type 0) where
  abbrev IsIn : Option Item → Type 0
  IsIn None = ⊥
  IsIn (Some item) = P item

  abbrev Some_in : List (Option Item) → Type 0
  Some_in [] = ⊥
  Some_in (item ∷ rest) = IsIn item ⊎ Some_in rest

  pub some_of : (xs : List (Option Item)) → Has P (those_possible xs) → Some_in xs
  some_of [] h = h
  some_of (None ∷ xs) h = inr (some_of xs h)
  some_of (Some item ∷ xs) (inl h) = inl h
  some_of (Some item ∷ xs) (inr h) = inr (some_of xs h)

  pub has_some : (xs : List (Option Item)) → Some_in xs → Has P (those_possible xs)
  has_some [] h = h
  has_some (None ∷ xs) (inl h) = absurd h
  has_some (None ∷ xs) (inr h) = has_some xs h
  has_some (Some item ∷ xs) (inl h) = inl h
  has_some (Some item ∷ xs) (inr h) = inr (has_some xs h)

  put : (b : Bool) (item : Item) → IsTrue b → P item → IsIn (then_some b item)
  put true item t h = h
  put false item t h = absurd (never t)

  taken : (b : Bool) (item : Item) → IsIn (then_some b item) → IsTrue b × P item
  taken true item h = (refl, h)
  taken false item h = absurd h

-- each item of such a list
module _ (P : Item → Type 0) where
  abbrev IsOk : Option Item → Type 0
  IsOk None = Unit {0}
  IsOk (Some item) = P item

  abbrev Each_in : List (Option Item) → Type 0
  Each_in [] = Unit {0}
  Each_in (item ∷ rest) = IsOk item × Each_in rest

  each_of : (xs : List (Option Item)) → Each_in xs → Each P (those_possible xs)
  each_of [] h = tt
  each_of (None ∷ xs) h = each_of xs h.1
  each_of (Some item ∷ xs) h = (h.0, each_of xs h.1)

  ok_if : (b : Bool) (item : Item) → (IsTrue b → P item) → IsOk (then_some b item)
  ok_if true item f = f refl
  ok_if false item f = tt

-- ---- sets that hold something

-- booleans of which one is true, from the left
abbrev joined : Bool → List Bool → Bool
joined b [] = b
joined b (c ∷ cs) = joined (b || c) cs

or_left : (a b : Bool) → IsTrue a → IsTrue (a || b)
or_left true b h = refl
or_left false b h = absurd (never h)

or_right : (a b : Bool) → IsTrue b → IsTrue (a || b)
or_right true b h = refl
or_right false b h = h

or_parts : (a b : Bool) → IsTrue (a || b) → IsTrue a ⊎ IsTrue b
or_parts true b h = inl refl
or_parts false b h = inr h

-- the one at some place
in_joined : (b : Bool) (cs : List Bool) (n : ℕ) → IsTrue (get_or (b ∷ cs) n false) → IsTrue (joined b cs)
in_joined b [] zero h = h
in_joined b [] (suc n) h = absurd (never h)
in_joined b (c ∷ cs) zero h = in_joined (b || c) cs zero (or_left b c h)
in_joined b (c ∷ cs) (suc zero) h = in_joined (b || c) cs zero (or_right b c h)
in_joined b (c ∷ cs) (suc (suc n)) h = in_joined (b || c) cs (suc n) h

place_in : (b : Bool) (cs : List Bool) → IsTrue (joined b cs) → (n : ℕ) × IsTrue (get_or (b ∷ cs) n false)
place_in b [] h = (0, h)
place_in b (c ∷ cs) h = from_rest (place_in (b || c) cs h) where
  first : IsTrue b ⊎ IsTrue c → (n : ℕ) × IsTrue (get_or (b ∷ c ∷ cs) n false)
  first (inl x) = (0, x)
  first (inr x) = (1, x)

  at : (n : ℕ) → IsTrue (get_or ((b || c) ∷ cs) n false) → (m : ℕ) × IsTrue (get_or (b ∷ c ∷ cs) m false)
  at zero x = first (or_parts b c x)
  at (suc n) x = (suc (suc n), x)

  from_rest : (n : ℕ) × IsTrue (get_or ((b || c) ∷ cs) n false) → (m : ℕ) × IsTrue (get_or (b ∷ c ∷ cs) m false)
  from_rest r = at r.0 r.1

there : (o : Option ℕ) (D : ℕ → Type 0) → IsSomeAnd o D → IsTrue (is_some o)
there None D h = absurd h
there (Some n) D h = refl

some_header : (e : HeaderFaults) (s : ℕ) (d : List ℕ) → NamesHeaderError e s d → IsTrue (has_header_error e)
some_header e s d (inl x) = in_joined e.marker (is_some e.length ∷ is_some e.kind ∷ []) 0 x.1
some_header e s d (inr (inl x)) = in_joined e.marker (is_some e.length ∷ is_some e.kind ∷ []) 1 (there e.length (λ v. d ≡ big_bytes 2 v) x.1)
some_header e s d (inr (inr x)) = in_joined e.marker (is_some e.length ∷ is_some e.kind ∷ []) 2 (there e.kind (λ v. d ≡ big_bytes 1 v) x.1)

some_open : (e : OpenSubcodes) (s : ℕ) (d : List ℕ) → NamesOpenError e s d → IsTrue (has_open_error e)
some_open e s d (inl x) = in_joined e.unspecific (e.version ∷ e.peer_as ∷ e.identifier ∷ e.parameter ∷ e.hold ∷ e.capability ∷ e.role ∷ []) 0 x.1
some_open e s d (inr (inl x)) = in_joined e.unspecific (e.version ∷ e.peer_as ∷ e.identifier ∷ e.parameter ∷ e.hold ∷ e.capability ∷ e.role ∷ []) 1 x.2
some_open e s d (inr (inr (inl x))) = in_joined e.unspecific (e.version ∷ e.peer_as ∷ e.identifier ∷ e.parameter ∷ e.hold ∷ e.capability ∷ e.role ∷ []) 2 x.1
some_open e s d (inr (inr (inr (inl x)))) = in_joined e.unspecific (e.version ∷ e.peer_as ∷ e.identifier ∷ e.parameter ∷ e.hold ∷ e.capability ∷ e.role ∷ []) 3 x.1
some_open e s d (inr (inr (inr (inr (inl x))))) = in_joined e.unspecific (e.version ∷ e.peer_as ∷ e.identifier ∷ e.parameter ∷ e.hold ∷ e.capability ∷ e.role ∷ []) 4 x.1
some_open e s d (inr (inr (inr (inr (inr (inl x)))))) = in_joined e.unspecific (e.version ∷ e.peer_as ∷ e.identifier ∷ e.parameter ∷ e.hold ∷ e.capability ∷ e.role ∷ []) 5 x.1
some_open e s d (inr (inr (inr (inr (inr (inr (inl x))))))) = in_joined e.unspecific (e.version ∷ e.peer_as ∷ e.identifier ∷ e.parameter ∷ e.hold ∷ e.capability ∷ e.role ∷ []) 6 x.1
some_open e s d (inr (inr (inr (inr (inr (inr (inr x))))))) = in_joined e.unspecific (e.version ∷ e.peer_as ∷ e.identifier ∷ e.parameter ∷ e.hold ∷ e.capability ∷ e.role ∷ []) 7 x.1

some_update : (e : Subcodes) (n : ℕ) → HasSubcode e n → IsTrue (has_update_error e)
some_update e zero h = absurd (never h)
some_update e (suc n) h =
    in_joined e.malformed_attribute_list
    (e.unrecognized_well_known ∷ e.missing_well_known ∷ e.attribute_flags ∷ e.attribute_length ∷ e.invalid_origin ∷ e.as_routing_loop ∷ e.invalid_next_hop ∷ e.optional_attribute ∷ e.invalid_network_field ∷ e.malformed_as_path ∷ []) n h

some_fsm : (e : FsmErrors) (s : ℕ) → HasFsmError e s → IsTrue (has_fsm_error e)
some_fsm e s (inl x) = in_joined e.unspecified (e.open_sent ∷ e.open_confirm ∷ e.established ∷ []) 0 x.1
some_fsm e s (inr (inl x)) = in_joined e.unspecified (e.open_sent ∷ e.open_confirm ∷ e.established ∷ []) 1 x.1
some_fsm e s (inr (inr (inl x))) = in_joined e.unspecified (e.open_sent ∷ e.open_confirm ∷ e.established ∷ []) 2 x.1
some_fsm e s (inr (inr (inr (x)))) = in_joined e.unspecified (e.open_sent ∷ e.open_confirm ∷ e.established ∷ []) 3 x.1

-- Hold Timer Expired, where it may be sent
expires : (P : Item → Type 0) (o : Option ℕ) (second : ℕ) → ((from : ℕ) → from ≤ second → P (items.HoldTimerExpired from)) → IsSomeAnd o (λ from. from ≤ second) → IsIn P (expiry_item o)
expires P None second f h = absurd h
expires P (Some from) second f h = f from h

expiry_ok : (P : Item → Type 0) (o : Option ℕ) → IfSome o (λ from. from < 2 ^ 32) → ((from : ℕ) → from < 2 ^ 32 → P (items.HoldTimerExpired from)) → IsOk P (expiry_item o)
expiry_ok P None few f = tt
expiry_ok P (Some from) few f = f from few

-- ---- a record is among those that are possible just where it is of an item

module _ (config : Config) (link : Option Link) (p : Possible) where
  abbrev IsOf : ShownRecord → Item → Type 0
  IsOf shown = IsOfItem config link shown

  notified_told : (second : ℕ) (o : List ℕ) → IsFrame (limit_on link) o → Tells o (IsNotified p second) → Some_in (IsOf (Sent second o)) (all_items p)
  notified_told second o frame (code, subcode, detail, is, inl x) = inr (inr (inr (inr (inl (put (IsOf (Sent second o)) (has_header_error p.header_errors) (items.HeaderErrors p.header_errors) (some_header p.header_errors subcode detail x.1) (frame, (code, subcode, detail, is, x)))))))
  notified_told second o frame (code, subcode, detail, is, inr (inl x)) = inr (inr (inr (inr (inr (inl (put (IsOf (Sent second o)) (has_open_error p.open_errors) (items.OpenErrors p.open_errors) (some_open p.open_errors subcode detail x.1) (frame, (code, subcode, detail, is, x))))))))
  notified_told second o frame (code, subcode, detail, is, inr (inr (inl x))) = inr (inr (inr (inr (inr (inr (inl (put (IsOf (Sent second o)) (has_update_error p.update_errors) (items.UpdateErrors p.update_errors) (some_update p.update_errors subcode x.1) (frame, (code, subcode, detail, is, x)))))))))
  notified_told second o frame (code, subcode, detail, is, inr (inr (inr (inl x)))) = inr (inr (inr (inr (inr (inr (inr (inl (expires (IsOf (Sent second o)) p.hold_timer_expired second (λ from le. (frame, (code, subcode, detail, is, (x.0, x.1, le)))) x.2))))))))
  notified_told second o frame (code, subcode, detail, is, inr (inr (inr (inr (inl x))))) = inr (inr (inr (inr (inr (inr (inr (inr (inr (inl (put (IsOf (Sent second o)) (has_fsm_error p.fsm_errors) (items.StateErrors p.fsm_errors) (some_fsm p.fsm_errors subcode x.1) (frame, (code, subcode, detail, is, x))))))))))))
  notified_told second o frame (code, subcode, detail, is, inr (inr (inr (inr (inr (inl x)))))) = inr (inr (inr (inr (inr (inr (inr (inr (inr (inr (inl (put (IsOf (Sent second o)) p.cease items.Cease x.1 (frame, (code, subcode, detail, is, x.0)))))))))))))
  notified_told second o frame (code, subcode, detail, is, inr (inr (inr (inr (inr (inr x)))))) = inr (inr (inr (inr (inr (inr (inr (inr (inl (put (IsOf (Sent second o)) p.send_hold_timer_expired items.SendHoldTimerExpired x.2 (frame, (code, subcode, detail, is, (x.0, x.1))))))))))))

  changed_told : (second old new : ℕ) (fsm : Fsm) → old ≡ number_of p.state → new ≡ number_of fsm → HasState p.changes fsm → Some_in (IsOf (Changed second old new)) (all_items p)
  changed_told second old new fsms.Idle from to has = inr (inr (inr (inr (inr (inr (inr (inr (inr (inr (inr (inl (put (IsOf (Changed second old new)) p.changes.idle (items.Change p.state fsms.Idle) has (from, to)))))))))))))
  changed_told second old new fsms.Connect from to has = inr (inr (inr (inr (inr (inr (inr (inr (inr (inr (inr (inr (inl (put (IsOf (Changed second old new)) p.changes.connect (items.Change p.state fsms.Connect) has (from, to))))))))))))))
  changed_told second old new fsms.Active from to has = inr (inr (inr (inr (inr (inr (inr (inr (inr (inr (inr (inr (inr (inl (put (IsOf (Changed second old new)) p.changes.active (items.Change p.state fsms.Active) has (from, to)))))))))))))))
  changed_told second old new fsms.OpenSent from to has = inr (inr (inr (inr (inr (inr (inr (inr (inr (inr (inr (inr (inr (inr (inl (put (IsOf (Changed second old new)) p.changes.open_sent (items.Change p.state fsms.OpenSent) has (from, to))))))))))))))))
  changed_told second old new fsms.OpenConfirm from to has = inr (inr (inr (inr (inr (inr (inr (inr (inr (inr (inr (inr (inr (inr (inr (inl (put (IsOf (Changed second old new)) p.changes.open_confirm (items.Change p.state fsms.OpenConfirm) has (from, to)))))))))))))))))
  changed_told second old new fsms.Established from to has = inr (inr (inr (inr (inr (inr (inr (inr (inr (inr (inr (inr (inr (inr (inr (inr (inl (put (IsOf (Changed second old new)) p.changes.established (items.Change p.state fsms.Established) has (from, to))))))))))))))))))

  pub told_if : (shown : ShownRecord) → IsAmong config link p shown → Some_in (IsOf shown) (all_items p)
  told_if (Received second o) h = inl (put (IsOf (Received second o)) p.message items.ReceivedMessage h refl)
  told_if (Sent second o) (frame, inl x) = inr (inl (put (IsOf (Sent second o)) p.own_open items.SentOpen x.0 (frame, x.1)))
  told_if (Sent second o) (frame, inr (inl x)) = inr (inr (inl (put (IsOf (Sent second o)) p.keepalive items.SentKeepalive x.0 (frame, x.1))))
  told_if (Sent second o) (frame, inr (inr (inl x))) = inr (inr (inr (inl (put (IsOf (Sent second o)) p.update items.SentUpdate x.0 (frame, x.1)))))
  told_if (Sent second o) (frame, inr (inr (inr x))) = notified_told second o frame x
  told_if (Changed second old new) h = changed_told second old new h.1.0 h.0 h.1.1 h.1.2

  among_received : (second : ℕ) (o : List ℕ) → Some_in (IsOf (Received second o)) (all_items p) → IsTrue p.message
  among_received second o (inl x) = (taken (IsOf (Received second o)) p.message items.ReceivedMessage x).0
  among_received second o (inr (inl x)) = absurd (let e : items.SentOpen ≡ items.ReceivedMessage = (taken (IsOf (Received second o)) p.own_open items.SentOpen x).1 in let f : ⊥ = cc in f)
  among_received second o (inr (inr (inl x))) = absurd (let e : items.SentKeepalive ≡ items.ReceivedMessage = (taken (IsOf (Received second o)) p.keepalive items.SentKeepalive x).1 in let f : ⊥ = cc in f)
  among_received second o (inr (inr (inr (inl x)))) = absurd (let e : items.SentUpdate ≡ items.ReceivedMessage = (taken (IsOf (Received second o)) p.update items.SentUpdate x).1 in let f : ⊥ = cc in f)
  among_received second o (inr (inr (inr (inr (inl x))))) = absurd (let e : (items.HeaderErrors p.header_errors) ≡ items.ReceivedMessage = (taken (IsOf (Received second o)) (has_header_error p.header_errors) (items.HeaderErrors p.header_errors) x).1 in let f : ⊥ = cc in f)
  among_received second o (inr (inr (inr (inr (inr (inl x)))))) = absurd (let e : (items.OpenErrors p.open_errors) ≡ items.ReceivedMessage = (taken (IsOf (Received second o)) (has_open_error p.open_errors) (items.OpenErrors p.open_errors) x).1 in let f : ⊥ = cc in f)
  among_received second o (inr (inr (inr (inr (inr (inr (inl x))))))) = absurd (let e : (items.UpdateErrors p.update_errors) ≡ items.ReceivedMessage = (taken (IsOf (Received second o)) (has_update_error p.update_errors) (items.UpdateErrors p.update_errors) x).1 in let f : ⊥ = cc in f)
  among_received second o (inr (inr (inr (inr (inr (inr (inr (inl x)))))))) = absurd (no p.hold_timer_expired x) where
    no : (from : Option ℕ) → IsIn (IsOf (Received second o)) (expiry_item from) → ⊥
    no None h = h
    no (Some from) h = let e : items.HoldTimerExpired from ≡ items.ReceivedMessage = h in let f : ⊥ = cc in f
  among_received second o (inr (inr (inr (inr (inr (inr (inr (inr (inl x))))))))) = absurd (let e : items.SendHoldTimerExpired ≡ items.ReceivedMessage = (taken (IsOf (Received second o)) p.send_hold_timer_expired items.SendHoldTimerExpired x).1 in let f : ⊥ = cc in f)
  among_received second o (inr (inr (inr (inr (inr (inr (inr (inr (inr (inl x)))))))))) = absurd (let e : (items.StateErrors p.fsm_errors) ≡ items.ReceivedMessage = (taken (IsOf (Received second o)) (has_fsm_error p.fsm_errors) (items.StateErrors p.fsm_errors) x).1 in let f : ⊥ = cc in f)
  among_received second o (inr (inr (inr (inr (inr (inr (inr (inr (inr (inr (inl x))))))))))) = absurd (let e : items.Cease ≡ items.ReceivedMessage = (taken (IsOf (Received second o)) p.cease items.Cease x).1 in let f : ⊥ = cc in f)
  among_received second o (inr (inr (inr (inr (inr (inr (inr (inr (inr (inr (inr (inl x)))))))))))) = absurd (let e : (items.Change p.state fsms.Idle) ≡ items.ReceivedMessage = (taken (IsOf (Received second o)) p.changes.idle (items.Change p.state fsms.Idle) x).1 in let f : ⊥ = cc in f)
  among_received second o (inr (inr (inr (inr (inr (inr (inr (inr (inr (inr (inr (inr (inl x))))))))))))) = absurd (let e : (items.Change p.state fsms.Connect) ≡ items.ReceivedMessage = (taken (IsOf (Received second o)) p.changes.connect (items.Change p.state fsms.Connect) x).1 in let f : ⊥ = cc in f)
  among_received second o (inr (inr (inr (inr (inr (inr (inr (inr (inr (inr (inr (inr (inr (inl x)))))))))))))) = absurd (let e : (items.Change p.state fsms.Active) ≡ items.ReceivedMessage = (taken (IsOf (Received second o)) p.changes.active (items.Change p.state fsms.Active) x).1 in let f : ⊥ = cc in f)
  among_received second o (inr (inr (inr (inr (inr (inr (inr (inr (inr (inr (inr (inr (inr (inr (inl x))))))))))))))) = absurd (let e : (items.Change p.state fsms.OpenSent) ≡ items.ReceivedMessage = (taken (IsOf (Received second o)) p.changes.open_sent (items.Change p.state fsms.OpenSent) x).1 in let f : ⊥ = cc in f)
  among_received second o (inr (inr (inr (inr (inr (inr (inr (inr (inr (inr (inr (inr (inr (inr (inr (inl x)))))))))))))))) = absurd (let e : (items.Change p.state fsms.OpenConfirm) ≡ items.ReceivedMessage = (taken (IsOf (Received second o)) p.changes.open_confirm (items.Change p.state fsms.OpenConfirm) x).1 in let f : ⊥ = cc in f)
  among_received second o (inr (inr (inr (inr (inr (inr (inr (inr (inr (inr (inr (inr (inr (inr (inr (inr (inl x))))))))))))))))) = absurd (let e : (items.Change p.state fsms.Established) ≡ items.ReceivedMessage = (taken (IsOf (Received second o)) p.changes.established (items.Change p.state fsms.Established) x).1 in let f : ⊥ = cc in f)
  among_received second o (inr (inr (inr (inr (inr (inr (inr (inr (inr (inr (inr (inr (inr (inr (inr (inr (inr x))))))))))))))))) = absurd x

  among_sent : (second : ℕ) (o : List ℕ) → Some_in (IsOf (Sent second o)) (all_items p) → IsAmong config link p (Sent second o)
  among_sent second o (inl x) =
      absurd (let h = taken (IsOf (Sent second o)) p.message items.ReceivedMessage x in h.1.1)
  among_sent second o (inr (inl x)) =
      let h = taken (IsOf (Sent second o)) p.own_open items.SentOpen x in (h.1.0, inl (h.0, h.1.1))
  among_sent second o (inr (inr (inl x))) =
      let h = taken (IsOf (Sent second o)) p.keepalive items.SentKeepalive x in (h.1.0, inr (inl (h.0, h.1.1)))
  among_sent second o (inr (inr (inr (inl x)))) =
      let h = taken (IsOf (Sent second o)) p.update items.SentUpdate x in (h.1.0, inr (inr (inl (h.0, h.1.1))))
  among_sent second o (inr (inr (inr (inr (inl x))))) =
      let h = taken (IsOf (Sent second o)) (has_header_error p.header_errors) (items.HeaderErrors p.header_errors) x in let t = h.1.1 in (h.1.0, inr (inr (inr (t.0, t.1, t.2, t.3, inl t.4))))
  among_sent second o (inr (inr (inr (inr (inr (inl x)))))) =
      let h = taken (IsOf (Sent second o)) (has_open_error p.open_errors) (items.OpenErrors p.open_errors) x in let t = h.1.1 in (h.1.0, inr (inr (inr (t.0, t.1, t.2, t.3, inr (inl t.4)))))
  among_sent second o (inr (inr (inr (inr (inr (inr (inl x))))))) =
      let h = taken (IsOf (Sent second o)) (has_update_error p.update_errors) (items.UpdateErrors p.update_errors) x in let t = h.1.1 in (h.1.0, inr (inr (inr (t.0, t.1, t.2, t.3, inr (inr (inl t.4))))))
  among_sent second o (inr (inr (inr (inr (inr (inr (inr (inl x)))))))) = of_expiry p.hold_timer_expired refl x where
    of_expiry : (from : Option ℕ) → p.hold_timer_expired ≡ from → IsIn (IsOf (Sent second o)) (expiry_item from) → IsAmong config link p (Sent second o)
    of_expiry None e h = absurd h
    of_expiry (Some from) e h = let t = h.1 in (h.0, inr (inr (inr (t.0, t.1, t.2, t.3, inr (inr (inr (inl (t.4.0, t.4.1, rw e t.4.2))))))))
  among_sent second o (inr (inr (inr (inr (inr (inr (inr (inr (inl x))))))))) =
      let h = taken (IsOf (Sent second o)) p.send_hold_timer_expired items.SendHoldTimerExpired x in let t = h.1.1 in (h.1.0, inr (inr (inr (t.0, t.1, t.2, t.3, inr (inr (inr (inr (inr (inr (t.4.0, t.4.1, h.0))))))))))
  among_sent second o (inr (inr (inr (inr (inr (inr (inr (inr (inr (inl x)))))))))) =
      let h = taken (IsOf (Sent second o)) (has_fsm_error p.fsm_errors) (items.StateErrors p.fsm_errors) x in let t = h.1.1 in (h.1.0, inr (inr (inr (t.0, t.1, t.2, t.3, inr (inr (inr (inr (inl t.4))))))))
  among_sent second o (inr (inr (inr (inr (inr (inr (inr (inr (inr (inr (inl x))))))))))) =
      let h = taken (IsOf (Sent second o)) p.cease items.Cease x in let t = h.1.1 in (h.1.0, inr (inr (inr (t.0, t.1, t.2, t.3, inr (inr (inr (inr (inr (inl (t.4, h.0))))))))))
  among_sent second o (inr (inr (inr (inr (inr (inr (inr (inr (inr (inr (inr (inl x)))))))))))) = absurd (taken (IsOf (Sent second o)) p.changes.idle (items.Change p.state fsms.Idle) x).1.1
  among_sent second o (inr (inr (inr (inr (inr (inr (inr (inr (inr (inr (inr (inr (inl x))))))))))))) = absurd (taken (IsOf (Sent second o)) p.changes.connect (items.Change p.state fsms.Connect) x).1.1
  among_sent second o (inr (inr (inr (inr (inr (inr (inr (inr (inr (inr (inr (inr (inr (inl x)))))))))))))) = absurd (taken (IsOf (Sent second o)) p.changes.active (items.Change p.state fsms.Active) x).1.1
  among_sent second o (inr (inr (inr (inr (inr (inr (inr (inr (inr (inr (inr (inr (inr (inr (inl x))))))))))))))) = absurd (taken (IsOf (Sent second o)) p.changes.open_sent (items.Change p.state fsms.OpenSent) x).1.1
  among_sent second o (inr (inr (inr (inr (inr (inr (inr (inr (inr (inr (inr (inr (inr (inr (inr (inl x)))))))))))))))) = absurd (taken (IsOf (Sent second o)) p.changes.open_confirm (items.Change p.state fsms.OpenConfirm) x).1.1
  among_sent second o (inr (inr (inr (inr (inr (inr (inr (inr (inr (inr (inr (inr (inr (inr (inr (inr (inl x))))))))))))))))) = absurd (taken (IsOf (Sent second o)) p.changes.established (items.Change p.state fsms.Established) x).1.1
  among_sent second o (inr (inr (inr (inr (inr (inr (inr (inr (inr (inr (inr (inr (inr (inr (inr (inr (inr x))))))))))))))))) = absurd x

  among_changed : (second old new : ℕ) → Some_in (IsOf (Changed second old new)) (all_items p) → IsAmong config link p (Changed second old new)
  among_changed second old new (inl x) = absurd (taken (IsOf (Changed second old new)) p.message items.ReceivedMessage x).1
  among_changed second old new (inr (inl x)) = absurd (taken (IsOf (Changed second old new)) p.own_open items.SentOpen x).1
  among_changed second old new (inr (inr (inl x))) = absurd (taken (IsOf (Changed second old new)) p.keepalive items.SentKeepalive x).1
  among_changed second old new (inr (inr (inr (inl x)))) = absurd (taken (IsOf (Changed second old new)) p.update items.SentUpdate x).1
  among_changed second old new (inr (inr (inr (inr (inl x))))) = absurd (taken (IsOf (Changed second old new)) (has_header_error p.header_errors) (items.HeaderErrors p.header_errors) x).1
  among_changed second old new (inr (inr (inr (inr (inr (inl x)))))) = absurd (taken (IsOf (Changed second old new)) (has_open_error p.open_errors) (items.OpenErrors p.open_errors) x).1
  among_changed second old new (inr (inr (inr (inr (inr (inr (inl x))))))) = absurd (taken (IsOf (Changed second old new)) (has_update_error p.update_errors) (items.UpdateErrors p.update_errors) x).1
  among_changed second old new (inr (inr (inr (inr (inr (inr (inr (inl x)))))))) = absurd (no p.hold_timer_expired x) where
    no : (from : Option ℕ) → IsIn (IsOf (Changed second old new)) (expiry_item from) → ⊥
    no None h = h
    no (Some from) h = h
  among_changed second old new (inr (inr (inr (inr (inr (inr (inr (inr (inl x))))))))) = absurd (taken (IsOf (Changed second old new)) p.send_hold_timer_expired items.SendHoldTimerExpired x).1
  among_changed second old new (inr (inr (inr (inr (inr (inr (inr (inr (inr (inl x)))))))))) = absurd (taken (IsOf (Changed second old new)) (has_fsm_error p.fsm_errors) (items.StateErrors p.fsm_errors) x).1
  among_changed second old new (inr (inr (inr (inr (inr (inr (inr (inr (inr (inr (inl x))))))))))) = absurd (taken (IsOf (Changed second old new)) p.cease items.Cease x).1
  among_changed second old new (inr (inr (inr (inr (inr (inr (inr (inr (inr (inr (inr (inl x)))))))))))) = let h = taken (IsOf (Changed second old new)) p.changes.idle (items.Change p.state fsms.Idle) x in (h.1.0, (fsms.Idle, h.1.1, h.0))
  among_changed second old new (inr (inr (inr (inr (inr (inr (inr (inr (inr (inr (inr (inr (inl x))))))))))))) = let h = taken (IsOf (Changed second old new)) p.changes.connect (items.Change p.state fsms.Connect) x in (h.1.0, (fsms.Connect, h.1.1, h.0))
  among_changed second old new (inr (inr (inr (inr (inr (inr (inr (inr (inr (inr (inr (inr (inr (inl x)))))))))))))) = let h = taken (IsOf (Changed second old new)) p.changes.active (items.Change p.state fsms.Active) x in (h.1.0, (fsms.Active, h.1.1, h.0))
  among_changed second old new (inr (inr (inr (inr (inr (inr (inr (inr (inr (inr (inr (inr (inr (inr (inl x))))))))))))))) = let h = taken (IsOf (Changed second old new)) p.changes.open_sent (items.Change p.state fsms.OpenSent) x in (h.1.0, (fsms.OpenSent, h.1.1, h.0))
  among_changed second old new (inr (inr (inr (inr (inr (inr (inr (inr (inr (inr (inr (inr (inr (inr (inr (inl x)))))))))))))))) = let h = taken (IsOf (Changed second old new)) p.changes.open_confirm (items.Change p.state fsms.OpenConfirm) x in (h.1.0, (fsms.OpenConfirm, h.1.1, h.0))
  among_changed second old new (inr (inr (inr (inr (inr (inr (inr (inr (inr (inr (inr (inr (inr (inr (inr (inr (inl x))))))))))))))))) = let h = taken (IsOf (Changed second old new)) p.changes.established (items.Change p.state fsms.Established) x in (h.1.0, (fsms.Established, h.1.1, h.0))
  among_changed second old new (inr (inr (inr (inr (inr (inr (inr (inr (inr (inr (inr (inr (inr (inr (inr (inr (inr x))))))))))))))))) = absurd x

  pub among : (shown : ShownRecord) → Some_in (IsOf shown) (all_items p) → IsAmong config link p shown
  among (Received second o) h = among_received second o h
  among (Sent second o) h = among_sent second o h
  among (Changed second old new) h = among_changed second old new h

-- ---- no line is without a record

short_none : length {A = ℕ} [] ≤ 4075
short_none = omega arith

short_two : (n : ℕ) → length (big_bytes 2 n) ≤ 4075
short_two n = let e : length (big_bytes 2 n) ≡ 2 = refl in omega arith

short_one : (n : ℕ) → length (big_bytes 1 n) ≤ 4075
short_one n = let e : length (big_bytes 1 n) ≡ 1 = refl in omega arith

in_time : 0 < 2 ^ 32
in_time = omega arith

-- an item has a record
abbrev IsLive : Config → List ShownRecord → Item → Type 0
IsLive config records item = (shown : ShownRecord) × IsCapturable config records shown × IsOfItem config (sending_link config records) shown item

module _ (config : Config) (records : List ShownRecord) where
  notification_live : (item : Item) (code subcode : ℕ) (detail : List ℕ) → length detail ≤ 4075
      → (Says : ℕ → ℕ → List ℕ → Type 0) → Says code subcode detail
      → (Tells (notification_octets code subcode detail) Says → SaysItem config (sending_link config records) 0 (notification_octets code subcode detail) item)
      → IsLive config records item
  notification_live item code subcode detail short Says is to =
      let o = notification_octets code subcode detail in
      (Sent 0 o, in_time, (notification_frame code subcode detail short (limit_on (sending_link config records)), to (code, subcode, detail, written_notification code subcode detail short, is)))

  header_live : (e : HeaderFaults) (o k : Option ℕ) → e.length ≡ o → e.kind ≡ k → IsTrue (e.marker || is_some o || is_some k) → IsLive config records (items.HeaderErrors e)
  header_live e o (Some n) is also h =
      notification_live (items.HeaderErrors e) 1 3 (big_bytes 1 n) (short_one n) (λ code subcode detail. (code ≡ 1) × NamesHeaderError e subcode detail) (refl, inr (inr (refl, rw also refl))) (λ t. t)
  header_live e (Some n) None is also h =
      notification_live (items.HeaderErrors e) 1 2 (big_bytes 2 n) (short_two n) (λ code subcode detail. (code ≡ 1) × NamesHeaderError e subcode detail) (refl, inr (inl (refl, rw is refl))) (λ t. t)
  header_live e None None is also h =
      let marker : IsTrue e.marker = elim (or_parts (e.marker || false) false h) [
        | inl x ↦ elim (or_parts e.marker false x) [ inl y ↦ y | inr y ↦ absurd (never y) ]
        | inr y ↦ absurd (never y)
      ] in
      notification_live (items.HeaderErrors e) 1 1 [] short_none (λ code subcode detail. (code ≡ 1) × NamesHeaderError e subcode detail) (refl, inl (refl, marker)) (λ t. t)

  open_at : (e : OpenSubcodes) (n : ℕ) → IsTrue (get_or (e.unspecific ∷ e.version ∷ e.peer_as ∷ e.identifier ∷ e.parameter ∷ e.hold ∷ e.capability ∷ e.role ∷ []) n false) → IsLive config records (items.OpenErrors e)
  open_at e zero h =
      notification_live (items.OpenErrors e) 2 0 [] short_none (λ code subcode detail. (code ≡ 2) × NamesOpenError e subcode detail) (refl, inl (refl, h)) (λ t. t)
  open_at e (suc zero) h =
      notification_live (items.OpenErrors e) 2 1 (big_bytes 2 4) (short_two 4) (λ code subcode detail. (code ≡ 2) × NamesOpenError e subcode detail) (refl, inr (inl (refl, refl, h))) (λ t. t)
  open_at e (suc (suc zero)) h =
      notification_live (items.OpenErrors e) 2 2 [] short_none (λ code subcode detail. (code ≡ 2) × NamesOpenError e subcode detail) (refl, inr (inr (inl (refl, h)))) (λ t. t)
  open_at e (suc (suc (suc zero))) h =
      notification_live (items.OpenErrors e) 2 3 [] short_none (λ code subcode detail. (code ≡ 2) × NamesOpenError e subcode detail) (refl, inr (inr (inr (inl (refl, h))))) (λ t. t)
  open_at e (suc (suc (suc (suc zero)))) h =
      notification_live (items.OpenErrors e) 2 4 [] short_none (λ code subcode detail. (code ≡ 2) × NamesOpenError e subcode detail) (refl, inr (inr (inr (inr (inl (refl, h)))))) (λ t. t)
  open_at e (suc (suc (suc (suc (suc zero))))) h =
      notification_live (items.OpenErrors e) 2 6 [] short_none (λ code subcode detail. (code ≡ 2) × NamesOpenError e subcode detail) (refl, inr (inr (inr (inr (inr (inl (refl, h))))))) (λ t. t)
  open_at e (suc (suc (suc (suc (suc (suc zero)))))) h =
      notification_live (items.OpenErrors e) 2 7 [] short_none (λ code subcode detail. (code ≡ 2) × NamesOpenError e subcode detail) (refl, inr (inr (inr (inr (inr (inr (inl (refl, h)))))))) (λ t. t)
  open_at e (suc (suc (suc (suc (suc (suc (suc zero))))))) h =
      notification_live (items.OpenErrors e) 2 11 [] short_none (λ code subcode detail. (code ≡ 2) × NamesOpenError e subcode detail) (refl, inr (inr (inr (inr (inr (inr (inr (refl, h)))))))) (λ t. t)
  open_at e (suc (suc (suc (suc (suc (suc (suc (suc n)))))))) h = absurd (never h)

  open_live : (e : OpenSubcodes) → IsTrue (has_open_error e) → IsLive config records (items.OpenErrors e)
  open_live e h = let at = place_in e.unspecific (e.version ∷ e.peer_as ∷ e.identifier ∷ e.parameter ∷ e.hold ∷ e.capability ∷ e.role ∷ []) h in open_at e at.0 at.1

  update_live : (e : Subcodes) → IsTrue (has_update_error e) → IsLive config records (items.UpdateErrors e)
  update_live e h =
      let at = place_in e.malformed_attribute_list
      (e.unrecognized_well_known ∷ e.missing_well_known ∷ e.attribute_flags ∷ e.attribute_length ∷ e.invalid_origin ∷ e.as_routing_loop ∷ e.invalid_next_hop ∷ e.optional_attribute ∷ e.invalid_network_field ∷ e.malformed_as_path ∷ []) h in
      notification_live (items.UpdateErrors e) 3 (suc at.0) [] short_none (λ code subcode detail. (code ≡ 3) × HasSubcode e subcode) (refl, at.1) (λ t. t)

  fsm_at : (e : FsmErrors) (n : ℕ) → IsTrue (get_or (e.unspecified ∷ e.open_sent ∷ e.open_confirm ∷ e.established ∷ []) n false) → IsLive config records (items.StateErrors e)
  fsm_at e zero h =
      notification_live (items.StateErrors e) 5 0 [] short_none (λ code subcode detail. (code ≡ 5) × HasFsmError e subcode) (refl, inl (refl, h)) (λ t. t)
  fsm_at e (suc zero) h =
      notification_live (items.StateErrors e) 5 1 [] short_none (λ code subcode detail. (code ≡ 5) × HasFsmError e subcode) (refl, inr (inl (refl, h))) (λ t. t)
  fsm_at e (suc (suc zero)) h =
      notification_live (items.StateErrors e) 5 2 [] short_none (λ code subcode detail. (code ≡ 5) × HasFsmError e subcode) (refl, inr (inr (inl (refl, h)))) (λ t. t)
  fsm_at e (suc (suc (suc zero))) h =
      notification_live (items.StateErrors e) 5 3 [] short_none (λ code subcode detail. (code ≡ 5) × HasFsmError e subcode) (refl, inr (inr (inr ((refl, h))))) (λ t. t)
  fsm_at e (suc (suc (suc (suc n)))) h = absurd (never h)

  fsm_live : (e : FsmErrors) → IsTrue (has_fsm_error e) → IsLive config records (items.StateErrors e)
  fsm_live e h = let at = place_in e.unspecified (e.open_sent ∷ e.open_confirm ∷ e.established ∷ []) h in fsm_at e at.0 at.1

  expiry_live : (from : ℕ) → from < 2 ^ 32 → IsLive config records (items.HoldTimerExpired from)
  expiry_live from few =
      let le : from ≤ from = omega arith in (
        Sent from (notification_octets 4 0 []),
        few,
        (notification_frame 4 0 [] short_none (limit_on (sending_link config records)), (4, 0, [], written_notification 4 0 [] short_none, (refl, refl, le))),
      )

  -- an UPDATE without contents, where one may follow
  empty_clean : HasCleanUpdate → (p : Possible) → IsAmong config (sending_link config records) p (Sent 0 empty_update) → IsCleanOn (sending_link config records) empty_update
  empty_clean clean p (frame, inl x) = absurd (let e : 1 ≡ 2 = one_message 1 2 empty_update x.1.form.readable.whole.message (clean.clean (link_of config (open_of []))).2.message in let f : ⊥ = cc in f)
  empty_clean clean p (frame, inr (inl x)) = absurd (let e : 4 ≡ 2 = one_message 4 2 empty_update x.1 (clean.clean (link_of config (open_of []))).2.message in let f : ⊥ = cc in f)
  empty_clean clean p (frame, inr (inr (inl x))) = x.1
  empty_clean clean p (frame, inr (inr (inr x))) = absurd (let e : 3 ≡ 2 = one_message 3 2 empty_update x.3.message (clean.clean (link_of config (open_of []))).2.message in let f : ⊥ = cc in f)

  change_live : (from to : Fsm) → IsLive config records (items.Change from to)
  change_live from to = (Changed 0 (number_of from) (number_of to), in_time, (refl, refl))

  live : HasCleanUpdate → (p : Possible) → ArePossible config records p → AreAsked config records p → IfSome p.hold_timer_expired (λ from. from < 2 ^ 32)
      → Each_in (IsLive config records) (all_items p)
  live clean p are asked few = (
    ok_if (IsLive config records) p.message items.ReceivedMessage (λ h. (Received 0 (message_octets 4 []), (in_time, alive_heard config (sending_link config records)), refl)),
    (
      ok_if (IsLive config records) p.own_open items.SentOpen (λ h. (Sent 0 (open_octets (own_fields config)), in_time, (is_frame (open_octets (own_fields config)) (octets-own_open config) (own_open config).form (limit_on (sending_link config records)), own_open config))),
      (
        ok_if (IsLive config records) p.keepalive items.SentKeepalive (λ h. (Sent 0 (message_octets 4 []), in_time, (alive_frame (limit_on (sending_link config records)), alive_is_message))),
        (
          ok_if (IsLive config records) p.update items.SentUpdate (λ h. (Sent 0 empty_update, in_time, (clean.frame (limit_on (sending_link config records)), empty_clean clean p ((are (Sent 0 empty_update) in_time).0 (asked.update.0 h))))),
          (
            ok_if (IsLive config records) (has_header_error p.header_errors) (items.HeaderErrors p.header_errors) (λ h. header_live p.header_errors p.header_errors.length p.header_errors.kind refl refl h),
            (
              ok_if (IsLive config records) (has_open_error p.open_errors) (items.OpenErrors p.open_errors) (λ h. open_live p.open_errors h),
              (
                ok_if (IsLive config records) (has_update_error p.update_errors) (items.UpdateErrors p.update_errors) (λ h. update_live p.update_errors h),
                (
                  expiry_ok (IsLive config records) p.hold_timer_expired few expiry_live,
                  (
                    ok_if (IsLive config records) p.send_hold_timer_expired items.SendHoldTimerExpired (λ h. notification_live items.SendHoldTimerExpired 8 0 [] short_none (λ code subcode detail. (code ≡ 8) × (subcode ≡ 0)) (refl, refl) (λ t. t)),
                    (
                      ok_if (IsLive config records) (has_fsm_error p.fsm_errors) (items.StateErrors p.fsm_errors) (λ h. fsm_live p.fsm_errors h),
                      (
                        ok_if (IsLive config records) p.cease items.Cease (λ h. notification_live items.Cease 6 0 [] short_none (λ code subcode detail. code ≡ 6) refl (λ t. t)),
                        (
                          ok_if (IsLive config records) p.changes.idle (items.Change p.state fsms.Idle) (λ h. change_live p.state fsms.Idle),
                          (
                            ok_if (IsLive config records) p.changes.connect (items.Change p.state fsms.Connect) (λ h. change_live p.state fsms.Connect),
                            (
                              ok_if (IsLive config records) p.changes.active (items.Change p.state fsms.Active) (λ h. change_live p.state fsms.Active),
                              (
                                ok_if (IsLive config records) p.changes.open_sent (items.Change p.state fsms.OpenSent) (λ h. change_live p.state fsms.OpenSent),
                                (
                                  ok_if (IsLive config records) p.changes.open_confirm (items.Change p.state fsms.OpenConfirm) (λ h. change_live p.state fsms.OpenConfirm),
                                  (
                                    ok_if (IsLive config records) p.changes.established (items.Change p.state fsms.Established) (λ h. change_live p.state fsms.Established),
                                    tt,
                                  ),
                                ),
                              ),
                            ),
                          ),
                        ),
                      ),
                    ),
                  ),
                ),
              ),
            ),
          ),
        ),
      ),
    ),
  )

pub tell_all : HasCleanUpdate → LinesTellAll
tell_all clean config records p are asked few = record {
  all = λ shown can. (
    λ may. has_some (IsOfItem config (sending_link config records) shown) (all_items p) (told_if config (sending_link config records) p shown ((are shown can).0 may)),
    λ has. (are shown can).1 (among config (sending_link config records) p shown (some_of (IsOfItem config (sending_link config records) shown) (all_items p) has)),
  );
  none_idle = each_of (IsLive config records) (all_items p) (live config records clean p are asked few);
}
