use Rattle.tests_base.proofs.witnesses.keep.Goals as goal

pub returns : goal.returns
returns c =
    let sent = c.write_all_volatile.ensures.sends in
    c.vectors_take_whole_pieces.ensures c.args.vector.now c.write_all_volatile.new.self c.args.bytes.now sent.0
    c.write_all_volatile.result sent.3
