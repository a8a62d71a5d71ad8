use Rattle.std.proofs.Common.{rules, ◌≡◌, [], ◌∷◌, length, take}
use Rattle.mrt.proofs.Exits.{done_then}
use Rattle.bgp_speaker.specs.Core.{Tick}
use Rattle.bgp_talk.specs.Account.{Read, Got, NothingYet, Ended, Broke}
use Rattle.bgp_talk.specs.Talk.{capture_of, read_room}
use Rattle.bgp_talk.proofs.Accounts.{capture_joined}
use Rattle.bgp_talk.proofs.Joining.{cut_then, read_talks, went_cut, went_silent, went_then}
use Rattle.bgp_talk.proofs.talking.Talk.read_once.Goals as goal

pub returns-in-Bytes-clause-ok : goal.returns-in-Bytes-clause-ok
returns-in-Bytes-clause-ok g c =
    let wide : length c.read.new.buffer ≡ read_room = search rules in
    done_then c.hand_in.result _ _ (λ h. λ left.
    went_then g.W.Wire.tells g.C.Sink.takes (capture_of c.args.self.now.config) g.met.W.Wire.joined g.met.C.Sink.joined (capture_joined c.args.self.now.config)
    (went_silent g.W.Wire.tells g.C.Sink.takes (capture_of c.args.self.now.config) g.met.W.Wire.joined g.met.C.Sink.joined (capture_joined c.args.self.now.config)
    (Read (length c.read.new.buffer) (Got (take c.in-Bytes.count c.read.new.buffer)) ∷ []) (g.met.C.Sink.nothing c.args.sink.now) c.in-Bytes.ensures.told (read_talks _ (Got (take c.in-Bytes.count c.read.new.buffer)) left c.args.self.now.core wide c.requires.awake))
    (h (Tick ∷ []) left)) c.hand_in.ensures.ok

pub returns-in-Bytes-clause-err : goal.returns-in-Bytes-clause-err
returns-in-Bytes-clause-err g c =
    let wide : length c.read.new.buffer ≡ read_room = search rules in
    cut_then c.hand_in.result _ _ (λ fault cut. λ left.
    went_cut g.W.Wire.tells g.C.Sink.takes (capture_of c.args.self.now.config) g.met.W.Wire.joined g.met.C.Sink.joined (capture_joined c.args.self.now.config)
    (went_silent g.W.Wire.tells g.C.Sink.takes (capture_of c.args.self.now.config) g.met.W.Wire.joined g.met.C.Sink.joined (capture_joined c.args.self.now.config)
    (Read (length c.read.new.buffer) (Got (take c.in-Bytes.count c.read.new.buffer)) ∷ []) (g.met.C.Sink.nothing c.args.sink.now) c.in-Bytes.ensures.told (read_talks _ (Got (take c.in-Bytes.count c.read.new.buffer)) left c.args.self.now.core wide c.requires.awake))
    (cut (Tick ∷ []) left)) c.hand_in.ensures.err

pub returns-in-Nothing-clause-ok : goal.returns-in-Nothing-clause-ok
returns-in-Nothing-clause-ok g c =
    let wide : length c.read.new.buffer ≡ read_room = search rules in
    λ left.
    went_silent g.W.Wire.tells g.C.Sink.takes (capture_of c.args.self.now.config) g.met.W.Wire.joined g.met.C.Sink.joined (capture_joined c.args.self.now.config)
    (Read (length c.read.new.buffer) NothingYet ∷ []) (g.met.C.Sink.nothing c.args.sink.now) c.in-Nothing.ensures.told (read_talks _ NothingYet left c.args.self.now.core wide c.requires.awake)

pub returns-in-Closed-clause-ok : goal.returns-in-Closed-clause-ok
returns-in-Closed-clause-ok g c =
    let wide : length c.read.new.buffer ≡ read_room = search rules in
    done_then c.hand_in-in-Closed.result _ _ (λ h. λ left.
    went_then g.W.Wire.tells g.C.Sink.takes (capture_of c.args.self.now.config) g.met.W.Wire.joined g.met.C.Sink.joined (capture_joined c.args.self.now.config)
    (went_silent g.W.Wire.tells g.C.Sink.takes (capture_of c.args.self.now.config) g.met.W.Wire.joined g.met.C.Sink.joined (capture_joined c.args.self.now.config)
    (Read (length c.read.new.buffer) Ended ∷ []) (g.met.C.Sink.nothing c.args.sink.now) c.in-Closed.ensures.told (read_talks _ Ended left c.args.self.now.core wide c.requires.awake))
    (h (Tick ∷ []) left)) c.hand_in-in-Closed.ensures.ok

pub returns-in-Closed-clause-err : goal.returns-in-Closed-clause-err
returns-in-Closed-clause-err g c =
    let wide : length c.read.new.buffer ≡ read_room = search rules in
    cut_then c.hand_in-in-Closed.result _ _ (λ fault cut. λ left.
    went_cut g.W.Wire.tells g.C.Sink.takes (capture_of c.args.self.now.config) g.met.W.Wire.joined g.met.C.Sink.joined (capture_joined c.args.self.now.config)
    (went_silent g.W.Wire.tells g.C.Sink.takes (capture_of c.args.self.now.config) g.met.W.Wire.joined g.met.C.Sink.joined (capture_joined c.args.self.now.config)
    (Read (length c.read.new.buffer) Ended ∷ []) (g.met.C.Sink.nothing c.args.sink.now) c.in-Closed.ensures.told (read_talks _ Ended left c.args.self.now.core wide c.requires.awake))
    (cut (Tick ∷ []) left)) c.hand_in-in-Closed.ensures.err

pub returns-in-Failed-clause-ok : goal.returns-in-Failed-clause-ok
returns-in-Failed-clause-ok g c =
    let wide : length c.read.new.buffer ≡ read_room = search rules in
    done_then c.hand_in-in-Failed.result _ _ (λ h. λ left.
    went_then g.W.Wire.tells g.C.Sink.takes (capture_of c.args.self.now.config) g.met.W.Wire.joined g.met.C.Sink.joined (capture_joined c.args.self.now.config)
    (went_silent g.W.Wire.tells g.C.Sink.takes (capture_of c.args.self.now.config) g.met.W.Wire.joined g.met.C.Sink.joined (capture_joined c.args.self.now.config)
    (Read (length c.read.new.buffer) Broke ∷ []) (g.met.C.Sink.nothing c.args.sink.now) c.in-Failed.ensures.told (read_talks _ Broke left c.args.self.now.core wide c.requires.awake))
    (h (Tick ∷ []) left)) c.hand_in-in-Failed.ensures.ok

pub returns-in-Failed-clause-err : goal.returns-in-Failed-clause-err
returns-in-Failed-clause-err g c =
    let wide : length c.read.new.buffer ≡ read_room = search rules in
    cut_then c.hand_in-in-Failed.result _ _ (λ fault cut. λ left.
    went_cut g.W.Wire.tells g.C.Sink.takes (capture_of c.args.self.now.config) g.met.W.Wire.joined g.met.C.Sink.joined (capture_joined c.args.self.now.config)
    (went_silent g.W.Wire.tells g.C.Sink.takes (capture_of c.args.self.now.config) g.met.W.Wire.joined g.met.C.Sink.joined (capture_joined c.args.self.now.config)
    (Read (length c.read.new.buffer) Broke ∷ []) (g.met.C.Sink.nothing c.args.sink.now) c.in-Failed.ensures.told (read_talks _ Broke left c.args.self.now.core wide c.requires.awake))
    (cut (Tick ∷ []) left)) c.hand_in-in-Failed.ensures.err
