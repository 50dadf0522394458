use Rattle.std.proofs.Common.{◌≡◌}
use Rattle.tm_store_records.proofs.Tagging.{reads_number, small_number, tag_says, tag_fits}
use Rattle.tm_store_records.proofs.tag.read_tag.Goals as goal

pub returns-clause-is : goal.returns-clause-is
returns-clause-is c =
    let e = c.get_u64.ensures.read c.requires.number (small_number c.args.tag.now c.requires) (reads_number c.args.tag.now c.requires) in
    let n : c.unwrap.result ≡ c.requires.number = cc (e, c.unwrap.ensures) in
    tag_says c.args.tag.now c.requires c.date_in.result c.unwrap.result (c.date_in.ensures c.requires) n

pub returns-clause-fits : goal.returns-clause-fits
returns-clause-fits c =
    let e = c.get_u64.ensures.read c.requires.number (small_number c.args.tag.now c.requires) (reads_number c.args.tag.now c.requires) in
    let n : c.unwrap.result ≡ c.requires.number = cc (e, c.unwrap.ensures) in
    tag_fits c.args.tag.now c.requires c.date_in.result c.unwrap.result (c.date_in.ensures c.requires) n
