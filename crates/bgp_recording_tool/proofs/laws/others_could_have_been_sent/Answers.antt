use Rattle.bgp_recording_tool.proofs.laws.others_could_have_been_sent.Goals as goal

pub returns : goal.returns
returns c config wanted packets segments number named count u possible more remarks told =
    let over = told.instead in
    let (is_there, instead) = over.are in
    let (sendable, are, is) = instead in
    record {
      connection = over.connection;
      chosen = over.chosen;
      is_there = is_there;
      exchange = are.exchange;
      tells = are.tells;
      sendable = sendable;
      is = is;
      just = are.are;
      each = λ octets could. c.each_message_is_of_a_kind.ensures config wanted.within are.exchange u.before _ octets sendable are.are could;
    }
