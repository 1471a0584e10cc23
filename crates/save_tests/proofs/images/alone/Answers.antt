use Rattle.save_tests.proofs.Empty.{list_checked}
use Rattle.save_tests.proofs.images.alone.Goals as goal

pub returns : goal.returns
returns c = list_checked _ _ _ c.new-list.ensures c.in_ok-push.ensures.ok c.new-text.ensures c.requires
