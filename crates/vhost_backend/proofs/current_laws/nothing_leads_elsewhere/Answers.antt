use Rattle.std.proofs.Common.{[], refl, subst}
use Rattle.vhost_backend.proofs.CurrentCallLemmas.{done_now, ended_now, failed_now, kicked_now, lost_now, mapped_now, new_now, reply_now, resized_now, sent_now, taken_now, tracking_now}
use Rattle.vhost_backend.proofs.CurrentRunLemmas.{fills_now, moves_now, same_now}
use Rattle.vhost_backend.specs.Current.{Current, after_changes, run_changes}
use Rattle.vhost_backend.specs.Given.{no_counts}
use Rattle.vhost_backend.specs.Run.{begun, output_of}
use Rattle.vhost_backend.specs.declared.block_connection.BlockConnection.{BlockConnection}
use Rattle.vhost_backend.proofs.current_laws.nothing_leads_elsewhere.Goals as goal

pub returns : goal.returns
returns c =
    let stays = c.kept_ranges_stay_current.ensures.stays in
    let changed = c.tables_say_what_messages_say.ensures.goes_on in
    let emptied = c.tables_say_what_messages_say.ensures.emptied in
    let leads = c.tables_say_what_messages_say.ensures.leads in
    let missed = c.tables_keep_to_their_limits.ensures.missed in
    let writes = c.writes_keep_shapes.ensures.tables in
    record {
      begins = new_now;
      moves = moves_now stays changed emptied leads missed writes;
      runs = λ f old ends turns actions pieces bytes counts new by now.
          subst (λ (v : BlockConnection).
          Current (after_changes (run_changes old ends turns actions pieces bytes counts new by) f) v) by.3
          (fills_now stays changed emptied leads missed writes f (begun old ends turns) by.1 (output_of no_counts [] [] [])
          (output_of counts actions pieces bytes) by.0 by.2
          (same_now f old (begun old ends turns).connection refl refl refl refl now));
      comes = taken_now;
      replies = reply_now;
      kicks = kicked_now;
      sends = sent_now;
      resizes = resized_now;
      loses = lost_now;
      maps = λ f old new is. mapped_now f old is new;
      tracks = tracking_now;
      does = done_now;
      fails = failed_now;
      ends = ended_now;
    }
