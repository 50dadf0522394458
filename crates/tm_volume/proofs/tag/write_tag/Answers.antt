use Rattle.std.proofs.Common.{cond, ◌≡◌, [], ◌∷◌, ◌∙◌, rules}
use Rattle.tm_codec.specs.Fields.{u64_text}
use Rattle.tm_volume.proofs.Tagging.{tag_laid}
use Rattle.tm_volume.proofs.tag.write_tag.Goals as goal

pub returns : goal.returns
unfolding u64_text
returns c =
    let first : c.copy_from_slice.new.self ≡ cond c.args.clean 1 0 ∷ [] = search rules in
    tag_laid (cond c.args.clean 1 0) c.args.generation c.args.next _ _ _ first (c.copy_from_slice-2.ensures.after ∙ c.to_be_bytes.ensures) (c.copy_from_slice-3.ensures.after ∙ c.to_be_bytes-2.ensures)
