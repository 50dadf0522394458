use Rattle.tm_volume.proofs.Rows.{key_fits, entry_told, nothing_says}
use Rattle.tm_volume.proofs.row.item_entry.Goals as goal

pub overflow_add-key : goal.overflow_add-key
overflow_add-key c = key_fits c.args.number c.requires.1

pub returns-in_ok-length-in-Some-clause-some : goal.returns-in_ok-length-in-Some-clause-some
returns-in_ok-length-in-Some-clause-some c = entry_told c.spellings_are_found.ensures.items c.args.image.now.records c.total.ensures.sound.rising c.args.number c.requires.0 c.requires.1
    c.in-Some.meta.now c.in_ok-length-in-Some.field-0 c.in-Some.ensures.some c.in_ok-length-in-Some.ensures

pub returns-in-None-clause-none : goal.returns-in-None-clause-none
returns-in-None-clause-none c = nothing_says c.spellings_are_found.ensures.items c.args.image.now.records c.total.ensures.sound.rising c.args.number c.requires.0 c.requires.1 c.in-None.ensures.none
