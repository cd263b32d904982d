use Rattle.tests_base.proofs.witnesses.send.Goals as goal

pub returns : goal.returns
returns g c =
    let sent = c.write_all_volatile.ensures.sends in
    let law = c.sends_are_computed.ensures c.args.sink.now c.write_all_volatile.new.self c.args.bytes.now sent.0
    c.write_all_volatile.result sent.3 in
    (sent.0, law.0, law.1)
