use Rattle.std.proofs.Common.{◌^◌, ◌<◌, length, subst, sym}
use Rattle.tm_nodes.proofs.Fields.{name_short}
use Rattle.tm_nodes.proofs.field.put_name.Goals as goal

pub put_short-requires : goal.put_short-requires
put_short-requires c = subst (λ name. length name < 2 ^ 8) (sym c.as_bytes.ensures.value) (name_short c.args.name.now c.as_bytes.ensures.name)
