-- What a text names of an OPEN's offer about routes: words with a comma between each two.
use Rattle.std.specs.Prelude.{◌≡◌, ◌⊎◌, ◌++◌, Bool, true, false, List, [], ◌∷◌, MatchOption, codes}
use Rattle.clap.specs.Words.{Row, Text, first_of}
use Rattle.bgp_open.specs.RouteOffer.{nothing}
use Rattle.bgp_open.specs.declared.route_offer.RouteOffer.{RouteOffer}
use Rattle.bgp_words.specs.declared.offers.OfferWord.{OfferWord}
use Rattle.bgp_words.specs.declared.offers.OfferWord.TheVariants.{SendV4, SendV6}
use Rattle.bgp_words.specs.declared.offers.OfferWord.TheVariants.{ReceiveV4, ReceiveV6, NextHops}

-- the text of a word
abbrev pub IsWordText : Text → OfferWord → Type 0
IsWordText text word =
    ((text ≡ codes "send-v4") × (word ≡ SendV4))
    ⊎ ((text ≡ codes "send-v6") × (word ≡ SendV6))
    ⊎ ((text ≡ codes "receive-v4") × (word ≡ ReceiveV4))
    ⊎ ((text ≡ codes "receive-v6") × (word ≡ ReceiveV6))
    ⊎ ((text ≡ codes "next-hops") × (word ≡ NextHops))

-- what the word names is offered: several paths of a family, sent or received (RFC 7911, 4), or
-- IPv6 next hops of IPv4 routes (RFC 8950, 4)
abbrev pub has_word : OfferWord → RouteOffer → Bool
has_word SendV4 offers = offers.sends.v4
has_word SendV6 offers = offers.sends.v6
has_word ReceiveV4 offers = offers.receives.v4
has_word ReceiveV6 offers = offers.receives.v6
has_word NextHops offers = offers.next_hops

-- and that it is offered besides
abbrev pub with_word : OfferWord → RouteOffer → RouteOffer
with_word SendV4 offers = record offers { sends = record offers.sends { v4 = true } }
with_word SendV6 offers = record offers { sends = record offers.sends { v6 = true } }
with_word ReceiveV4 offers = record offers { receives = record offers.receives { v4 = true } }
with_word ReceiveV6 offers = record offers { receives = record offers.receives { v6 = true } }
with_word NextHops offers = record offers { next_hops = true }

-- a word adds what it names to an offer that lacks it
pub record IsAdded (text : Text) (offers wider : RouteOffer) : Type 0 where
  pub word : OfferWord
  pub is_word : IsWordText text word
  pub lacks : has_word word offers ≡ false
  pub is : wider ≡ with_word word offers

-- so do words one after another
abbrev pub AreAdded : List Text → RouteOffer → RouteOffer → Type 0
AreAdded [] offers wider = wider ≡ offers
AreAdded (text ∷ more) offers wider =
    (next : RouteOffer) × IsAdded text offers next × AreAdded more next wider

-- words with a comma between each two
abbrev pub with_commas : Text → List Text → Text
with_commas text [] = text
with_commas text (next ∷ more) = text ++ (44 ∷ with_commas next more)

-- the words of a text, at least one, add to an offer
pub record Adds (text : Text) (offers wider : RouteOffer) : Type 0 where
  pub first : Text
  pub more : List Text
  pub spelled : text ≡ with_commas first more
  pub are_added : AreAdded (first ∷ more) offers wider

-- an offer that is spelled: each word names another part of it, and nothing else is offered
abbrev pub IsOffersText : Text → RouteOffer → Type 0
IsOffersText text offers = Adds text nothing offers

-- what an option names of an offer: nothing where it isn't given
abbrev pub IsOffered : Text → List Row → RouteOffer → Type 0
IsOffered name rows offers =
    MatchOption (first_of name rows) (offers ≡ nothing) (λ text. IsOffersText text offers)
