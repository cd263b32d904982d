use Rattle.vhost_backend.proofs.PageLemmas.{added_is_to_mark, still_to_mark}
use Rattle.vhost_backend.proofs.whole_laws.no_page_leaves_the_list.Goals as goal

pub returns : goal.returns
returns c = record { added = added_is_to_mark; stays = still_to_mark }
