use Rattle.tm_items.proofs.Counting.{all_taken, few_numbers}
use Rattle.tm_items.proofs.laws.numbers_count.Goals as goal

pub returns-clause-taken : goal.returns-clause-taken
returns-clause-taken c = all_taken

pub returns-clause-few : goal.returns-clause-few
returns-clause-few c = few_numbers
