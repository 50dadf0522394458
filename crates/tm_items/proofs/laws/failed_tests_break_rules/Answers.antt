use Rattle.tm_items.proofs.Loading.{root_breaks, folder_breaks, depth_breaks, name_breaks, place_breaks}
use Rattle.tm_items.proofs.laws.failed_tests_break_rules.Goals as goal

pub returns-clause-root : goal.returns-clause-root
returns-clause-root c = root_breaks

pub returns-clause-folder : goal.returns-clause-folder
returns-clause-folder c = folder_breaks

pub returns-clause-depth : goal.returns-clause-depth
returns-clause-depth c = depth_breaks

pub returns-clause-name : goal.returns-clause-name
returns-clause-name c = name_breaks

pub returns-clause-place : goal.returns-clause-place
returns-clause-place c = place_breaks
