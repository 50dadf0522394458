-- The record of a new store.
use Rattle.std.specs.Prelude.{ℕ, List, [], ◌∷◌}
use Rattle.tm_nodes.specs.Headers.{machine_text}
use Rattle.tm_records.specs.declared.record.Body.TheVariants.{Empty}
use Rattle.tm_records.specs.declared.record.Put.{Put}

-- the machine's, without data
abbrev pub machine_puts : List ℕ → List Put
machine_puts machine = record { key = 1; meta = machine_text machine; body = Empty } ∷ []
