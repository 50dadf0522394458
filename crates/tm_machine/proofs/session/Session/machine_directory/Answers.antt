use Rattle.std.proofs.Common.{[], ◌∷◌, Option}
use Rattle.std.specs.Option.{option_map_or}
use Rattle.tm_base.specs.declared.refused.LineFault.TheVariants.{Refused as RefusedFor}
use Rattle.tm_reply.specs.declared.row.ReplyRow.TheVariants.{MachineDirectory}
use Rattle.tm_tree.specs.States.{StoreState}
use Rattle.tm_machine.proofs.Exits.{exit_is}
use Rattle.tm_machine.proofs.StoredLemmas.{no_store_answer}
use Rattle.tm_machine.proofs.session.Session.machine_directory.Goals as goal

pub returns-in_err-store : goal.returns-in_err-store
returns-in_err-store c o =
    let none = c.in_err-store.ensures.none in
    let why = c.in_err-store.field-0.0 in
    no_store_answer (λ store. []) (λ (z : Option StoreState). option_map_or (λ store. MachineDirectory store.machine ∷ []) z []) c.args.self.now o why c.from_residual.result none.0 none.1
    (exit_is c.from_residual.result (RefusedFor why) c.from_residual.ensures.1)
