use Rattle.std.proofs.Common.{◌≤◌, ◌<◌, ℕ, length, ◌∙◌}
use Rattle.std.proofs.lemmas.List.Sorted.{searched}
use Rattle.tm_store.proofs.Searching.{answers}
use Rattle.tm_store.proofs.stage.stands_in.Goals as goal

pub returns : goal.returns
returns c = c.is_ok.ensures.value ∙ answers c.args.rising.now c.args.block c.binary_search.result (searched c.args.rising.now c.args.block c.binary_search.result c.binary_search.ensures.position (λ i j up lt. c.requires i j 0 up lt))
