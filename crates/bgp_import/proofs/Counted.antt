-- A packet more is counted.
use Rattle.std.proofs.Common.{◌≡◌, ◌∙◌, ◌+◌, ◌++◌, ℕ, Bool, true, false, cond, List, [], ◌∷◌, None, Some, length, filter, refl, ap, arith, length-append}
use Rattle.std.proofs.lemmas.List.Elements.{filter-append}
use Rattle.packets.specs.Packet.{Recorded}
use Rattle.segments.specs.Wrapping.{wrapping_in}
use Rattle.segments.specs.declared.wrapping.Wrapping.{Wrapping}
use Rattle.segments.specs.declared.wrapping.Wrapping.TheVariants as wrappings
use Rattle.bgp_import.specs.Wrapped.{AreCounted, count_in, is_that, is_wrapped_in, one_more, told_count, with_one}
use Rattle.bgp_import.specs.declared.wrapped.Wrapped.{Wrapped}

module _ (packets : List Recorded) (packet : Recorded) where
  one_by : (b : Bool) → length (cond b (packet ∷ []) []) ≡ cond b 1 0
  one_by true = refl
  one_by false = refl

  count_is : (wrapping : Wrapping) → count_in wrapping (packets ++ packet ∷ []) ≡ count_in wrapping packets + cond (is_wrapped_in wrapping packet) 1 0
  count_is wrapping = ap length (filter-append (is_wrapped_in wrapping) packets (packet ∷ []))
      ∙ length-append (filter (is_wrapped_in wrapping) packets) (filter (is_wrapped_in wrapping) (packet ∷ []))
      ∙ ap (λ (n : ℕ). count_in wrapping packets + n) (one_by (is_wrapped_in wrapping packet))

  same : (wrapping : Wrapping) → is_wrapped_in wrapping packet ≡ false → told_count wrapping packets ≡ told_count wrapping (packets ++ packet ∷ [])
  same wrapping is =
      let count = count_is wrapping ∙ ap (λ (b : Bool). count_in wrapping packets + cond b 1 0) is in
      omega (arith, count)

  more : (wrapping : Wrapping) → is_wrapped_in wrapping packet ≡ true → one_more (told_count wrapping packets) ≡ told_count wrapping (packets ++ packet ∷ [])
  more wrapping is =
      let count = count_is wrapping ∙ ap (λ (b : Bool). count_in wrapping packets + cond b 1 0) is in
      omega (arith, count)

  pub none_more : (wrapped : Wrapped) → wrapping_in packet.link_type packet.octets ≡ None → AreCounted packets wrapped → AreCounted (packets ++ packet ∷ []) wrapped
  none_more wrapped is h = record {
    gre = h.gre ∙ same wrappings.Gre (ap (is_that wrappings.Gre) is);
    erspan = h.erspan ∙ same wrappings.Erspan (ap (is_that wrappings.Erspan) is);
    vxlan = h.vxlan ∙ same wrappings.Vxlan (ap (is_that wrappings.Vxlan) is);
    mpls = h.mpls ∙ same wrappings.Mpls (ap (is_that wrappings.Mpls) is);
    pppoe = h.pppoe ∙ same wrappings.Pppoe (ap (is_that wrappings.Pppoe) is);
  }

  pub counted : (wrapping : Wrapping) (wrapped : Wrapped) → wrapping_in packet.link_type packet.octets ≡ Some wrapping → AreCounted packets wrapped
      → AreCounted (packets ++ packet ∷ []) (with_one wrapping wrapped)
  counted wrappings.Gre wrapped is h = record {
    gre = ap one_more h.gre ∙ more wrappings.Gre (ap (is_that wrappings.Gre) is);
    erspan = h.erspan ∙ same wrappings.Erspan (ap (is_that wrappings.Erspan) is);
    vxlan = h.vxlan ∙ same wrappings.Vxlan (ap (is_that wrappings.Vxlan) is);
    mpls = h.mpls ∙ same wrappings.Mpls (ap (is_that wrappings.Mpls) is);
    pppoe = h.pppoe ∙ same wrappings.Pppoe (ap (is_that wrappings.Pppoe) is);
  }
  counted wrappings.Erspan wrapped is h = record {
    gre = h.gre ∙ same wrappings.Gre (ap (is_that wrappings.Gre) is);
    erspan = ap one_more h.erspan ∙ more wrappings.Erspan (ap (is_that wrappings.Erspan) is);
    vxlan = h.vxlan ∙ same wrappings.Vxlan (ap (is_that wrappings.Vxlan) is);
    mpls = h.mpls ∙ same wrappings.Mpls (ap (is_that wrappings.Mpls) is);
    pppoe = h.pppoe ∙ same wrappings.Pppoe (ap (is_that wrappings.Pppoe) is);
  }
  counted wrappings.Vxlan wrapped is h = record {
    gre = h.gre ∙ same wrappings.Gre (ap (is_that wrappings.Gre) is);
    erspan = h.erspan ∙ same wrappings.Erspan (ap (is_that wrappings.Erspan) is);
    vxlan = ap one_more h.vxlan ∙ more wrappings.Vxlan (ap (is_that wrappings.Vxlan) is);
    mpls = h.mpls ∙ same wrappings.Mpls (ap (is_that wrappings.Mpls) is);
    pppoe = h.pppoe ∙ same wrappings.Pppoe (ap (is_that wrappings.Pppoe) is);
  }
  counted wrappings.Mpls wrapped is h = record {
    gre = h.gre ∙ same wrappings.Gre (ap (is_that wrappings.Gre) is);
    erspan = h.erspan ∙ same wrappings.Erspan (ap (is_that wrappings.Erspan) is);
    vxlan = h.vxlan ∙ same wrappings.Vxlan (ap (is_that wrappings.Vxlan) is);
    mpls = ap one_more h.mpls ∙ more wrappings.Mpls (ap (is_that wrappings.Mpls) is);
    pppoe = h.pppoe ∙ same wrappings.Pppoe (ap (is_that wrappings.Pppoe) is);
  }
  counted wrappings.Pppoe wrapped is h = record {
    gre = h.gre ∙ same wrappings.Gre (ap (is_that wrappings.Gre) is);
    erspan = h.erspan ∙ same wrappings.Erspan (ap (is_that wrappings.Erspan) is);
    vxlan = h.vxlan ∙ same wrappings.Vxlan (ap (is_that wrappings.Vxlan) is);
    mpls = h.mpls ∙ same wrappings.Mpls (ap (is_that wrappings.Mpls) is);
    pppoe = ap one_more h.pppoe ∙ more wrappings.Pppoe (ap (is_that wrappings.Pppoe) is);
  }
