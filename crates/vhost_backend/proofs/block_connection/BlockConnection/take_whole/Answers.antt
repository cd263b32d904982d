use Rattle.std.proofs.Common.{◌≡◌, ◌-◌, arith, drop, length, length-drop, take}
use Rattle.std.proofs.lemmas.List.{take_all}
use Rattle.vhost_backend.proofs.ConnectionLemmas.{taken_is}
use Rattle.vhost_backend.proofs.block_connection.BlockConnection.take_whole.Goals as goal

pub returns : goal.returns
returns c =
    let m = c.args.message.now in
    let left = length-drop 12 m in
    let whole : take (length m - 12) (drop 12 m) ≡ drop 12 m = take_all (length m - 12) (drop 12 m) (omega arith) in
    taken_is c.args.self.now c.take_message.new.self c.take_message.result c.at_front-header.result m _
    c.args.descriptors c.at_front-header.ensures whole c.take_message.ensures
