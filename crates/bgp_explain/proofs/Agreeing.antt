-- What a reason says is one text wherever the records that it names stand alike.
use Rattle.std.proofs.Common.{◌≡◌, ◌∙◌, ℕ, Bool, true, false, List, Option, None, Some, ap, refl, subst}
use Rattle.bgp_prefix.specs.Shown.{ShownRecord, second_of}
use Rattle.bgp_prefix.specs.declared.session.Session.{Session}
use Rattle.bgp_open.specs.declared.config.Config.{Config}
use Rattle.bgp_open.specs.declared.link.Link.{Link}
use Rattle.bgp_reason.specs.declared.kinds.Possible.{Possible}
use Rattle.bgp_reason.specs.declared.told.Told.{Told}
use Rattle.bgp_why.specs.Deed.{record_line}
use Rattle.bgp_why.specs.declared.place.Place.{Place}
use Rattle.bgp_why.specs.declared.state.SentAlready.{SentAlready}
use Rattle.bgp_why.specs.declared.style.Style.{Style}
use Rattle.bgp_explain.specs.declared.explained.Impossible.{Impossible}
use Rattle.bgp_explain.specs.declared.explained.Reason.{Reason}
use Rattle.bgp_explain.specs.declared.fractions.Fractions.{Fractions}
use Rattle.bgp_explain.specs.declared.left_out.LeftOut.{LeftOut}
use Rattle.bgp_explain.specs.declared.moments.Moments.{Moments}
use Rattle.bgp_explain.specs.declared.moments.SentNotification.{SentNotification}
use Rattle.bgp_explain.specs.declared.why.Why.{Why}
use Rattle.bgp_explain.specs.Deed.{IsFirstLine}
use Rattle.bgp_explain.specs.Details.{next_in}
use Rattle.bgp_explain.specs.Fractions.{AreKeptFor, impossible_number, number_in, reason_names}
use Rattle.bgp_explain.specs.Kept.{shown_by}
use Rattle.bgp_explain.specs.Lacked.{Lacked, lacked_cause}
use Rattle.bgp_explain.specs.Places.{counted_places, kept_places, named_place}
use Rattle.bgp_explain.specs.Text.{IsMoreBy, IsReasonText}
use Rattle.bgp_explain.specs.Why.{AreWhy, IsAlready, IsAlreadyBy, IsReceivedBy}
use Rattle.bgp_explain.proofs.FractionsKept.{Agree, AgreeAt, kept_agree}

module _ (one other : ℕ → ℕ → Place) where
  same_named : (name second : Option ℕ) → AgreeAt one other name → named_place one name second ≡ named_place other name second
  same_named None second agree = refl
  same_named (Some n) None agree = refl
  same_named (Some n) (Some s) agree = ap (λ (p : Place). let o : Option Place = Some p in o) (agree s)

  same_already : (link : Option Link) (shown : ShownRecord) (last : SentNotification) (already : Option SentAlready) → AgreeAt one other (Some last.number)
      → IsAlreadyBy one link shown last already → IsAlreadyBy other link shown last already
  same_already link shown last None agree is = is
  same_already link shown last (Some already) agree is = (
    is.0,
    is.1 ∙ ap (λ (p : Place). let s : SentAlready = record { place = p; code = last.code; subcode = last.subcode } in s) (agree last.second),
  )

  same_sent : (link : Option Link) (last : Option SentNotification) (next : Option (ℕ × ShownRecord)) (already : Option SentAlready) → AgreeAt one other (number_in last)
      → IsAlready one link last next already → IsAlready other link last next already
  same_sent link last None already agree is = is
  same_sent link None (Some next) already agree is = is
  same_sent link (Some last) (Some next) already agree is = same_already link next.1 last already agree is

  same_why : (config : Config) (told : Told) (moments : Moments) (link : Option Link) (left_out : LeftOut) (octets : List ℕ) (possible : Possible)
      (next : Option (ℕ × ShownRecord)) (why : Why) → AgreeAt one other told.told_by → AgreeAt one other told.last_received → AgreeAt one other (number_in moments.notification)
      → AreWhy config one told moments link left_out octets possible next why → AreWhy config other told moments link left_out octets possible next why
  same_why config told moments link left_out octets possible next why since received sent are = record {
    since = are.since ∙ same_named told.told_by moments.told_by since;
    received = subst (λ (p : Option Place). IsReceivedBy config link told octets p why.received) (same_named told.last_received moments.last_received received) are.received;
    unwhole = are.unwhole;
    already = same_sent link moments.notification next why.already sent are.already;
    notes = are.notes;
  }

  module _ {X : Type 0} (config : Config) (style : Style) (session : Session) where
    same_first : (link : Option Link) (possible : Possible) (lacked : Lacked) (o : Option (Impossible X)) (first : List ℕ) → AgreeAt one other (impossible_number o)
        → IsFirstLine style session one link possible lacked (next_in o) first → IsFirstLine style session other link possible lacked (next_in o) first
    same_first link possible lacked None first agree is = is
    same_first link possible lacked (Some impossible) first agree is = (
      is.0,
      is.1,
      is.2 ∙ ap (λ (p : Place). record_line p session.local is.0 (lacked_cause style.own_faults possible lacked)) (agree (second_of (shown_by impossible.«record»))),
    )

    same_reason : (reason : Reason X) (text : List ℕ) → Agree one other (reason_names reason) → IsReasonText config style session one reason text
        → IsReasonText config style session other reason text
    same_reason reason text agree is = record {
      lacked = is.lacked;
      are_lacks = is.are_lacks;
      first = is.first;
      rest = is.rest;
      is_first = same_first reason.link reason.possible is.lacked reason.impossible is.first agree.impossible is.is_first;
      why = record {
        sent = is.why.sent;
        why = is.why.why;
        asking = is.why.asking;
        lacked = is.why.lacked;
        is_sent = is.why.is_sent;
        are_why = same_why config reason.told reason.moments reason.link reason.left_out reason.last_message.items reason.possible (next_in reason.impossible) is.why.why
            agree.told_by agree.last_received agree.notification is.why.are_why;
        is_asked = is.why.is_asked;
        are_lacks = is.why.are_lacks;
        whole = is.why.whole;
      };
      whole = is.whole;
    }

-- so what is told of a reason by the fractions that are kept is told of it by those of all records
pub by_all : {X : Type 0} (config : Config) (style : Style) (session : Session) (micros : List (Option ℕ)) (fractions : Fractions) (why : Option (Reason X)) (detailed : Bool)
    (more : List ℕ) → AreKeptFor micros why fractions → IsMoreBy config style session (kept_places fractions) why detailed more
    → IsMoreBy config style session (counted_places micros) why detailed more
by_all config style session micros fractions None detailed more kept is = is
by_all config style session micros fractions (Some reason) false more kept is = is
by_all config style session micros fractions (Some reason) true more kept is =
    same_reason (kept_places fractions) (counted_places micros) config style session reason more (kept_agree micros (reason_names reason) fractions kept) is
