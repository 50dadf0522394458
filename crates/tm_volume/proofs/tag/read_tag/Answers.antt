use Rattle.std.proofs.Common.{◌≡◌, ◌==◌, get_or, refl}
use Rattle.tm_volume.proofs.Tagging.{reads_generation, reads_next, small_generation, small_next, tag_reads, tag_bounds}
use Rattle.tm_volume.proofs.tag.read_tag.Goals as goal

pub returns-clause-is : goal.returns-clause-is
returns-clause-is c =
    let e = c.get_u64.ensures.read c.requires.generation (small_generation c.args.tag.now c.requires) (reads_generation c.args.tag.now c.requires) in
    let f = c.get_u64-2.ensures.read c.requires.next (small_next c.args.tag.now c.requires) (reads_next c.args.tag.now c.requires) in
    let g : c.unwrap.result ≡ c.requires.generation = cc (e, c.unwrap.ensures) in
    let n : c.unwrap-2.result ≡ c.requires.next = cc (f, c.unwrap-2.ensures) in
    tag_reads c.args.tag.now c.requires (get_or c.args.tag.now 0 0 == 1) c.unwrap.result c.unwrap-2.result refl g n

pub returns-clause-tagged : goal.returns-clause-tagged
returns-clause-tagged c =
    let e = c.get_u64.ensures.read c.requires.generation (small_generation c.args.tag.now c.requires) (reads_generation c.args.tag.now c.requires) in
    let f = c.get_u64-2.ensures.read c.requires.next (small_next c.args.tag.now c.requires) (reads_next c.args.tag.now c.requires) in
    let g : c.unwrap.result ≡ c.requires.generation = cc (e, c.unwrap.ensures) in
    let n : c.unwrap-2.result ≡ c.requires.next = cc (f, c.unwrap-2.ensures) in
    tag_bounds c.args.tag.now c.requires (get_or c.args.tag.now 0 0 == 1) c.unwrap.result c.unwrap-2.result refl g n
