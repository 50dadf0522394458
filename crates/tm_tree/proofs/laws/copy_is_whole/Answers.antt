use Rattle.tm_tree.specs.Copies.{copied_label}
use Rattle.tm_tree.proofs.CopyProofs.{bare_labelled}
use Rattle.tm_tree.proofs.laws.copy_is_whole.Goals as goal

pub returns : goal.returns
returns c k prev now = bare_labelled (copied_label k prev now) now
