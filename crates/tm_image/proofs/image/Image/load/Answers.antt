use Rattle.std.proofs.Common.{◌≡◌, ⊎_elim, ◌∙◌, length, ap, sym, subst, rules, Err}
use Rattle.std.proofs.lemmas.Result.{err_from_is_err_and}
use Rattle.tm_world.specs.Disk.{Disk}
use Rattle.tm_world.specs.Outside.{disk}
use Rattle.tm_world.specs.Log.{now}
use Rattle.tm_world.specs.declared.cause.Cause.{Cause}
use Rattle.tm_world.specs.declared.cause.Cause.TheVariants.{Block, Room}
use Rattle.tm_chain.specs.Chain.{IsChain}
use Rattle.tm_chain.specs.Way.{BreaksAt}
use Rattle.tm_table.specs.Text.{table_text}
use Rattle.tm_table.specs.Breaks.{BreaksAt as TableBreaksAt}
use Rattle.tm_image.specs.Load.{HasRoot, HasRecords, Fails}
use Rattle.tm_image.specs.declared.error.LoadError.TheVariants.{Bad}
use Rattle.tm_image.proofs.Loading.{stands_loaded}
use Rattle.tm_image.proofs.image.Image.load.Goals as goal

pub returns-in_err-chain-clause-bad : goal.returns-in_err-chain-clause-bad
returns-in_err-chain-clause-bad g c told = λ cause place is.
    let d0 = disk c.args.side (now (g.W.World.log c.args.world.now)) in
    let gate = c.in_ok-gate.gate in
    let same1 : disk c.args.side (now (g.W.World.log c.gate_of.new.world)) ≡ d0 = ap (disk c.args.side) (c.gate_of.ensures.steps told).ends in
    let shows = c.in_ok-gate.ensures.shows told in
    let has : HasRoot c.args.side c.args.blocks d0.bytes gate.root = record { slot = ap d0.bytes shows.selected ∙ shows.holds; good = c.in_ok-gate.ensures.root } in
    let met = err_from_is_err_and c.from_residual-in_err-chain.result c.from_residual-in_err-chain.ensures.1 in
    let gives = met.1 in
    let from = met.2 in
    let same : c.in_err-chain.field-0.0 ≡ Bad cause place = cc in
    let f = c.in_err-chain.ensures.bad told cause place (ap (λ e. Err e) same) in
    subst (λ (k : Cause). Fails c.args.side c.args.blocks d0.bytes k place) (sym f.0) (gate.root, has, subst (λ (d : Disk). BreaksAt gate.root.first gate.root.table_len c.args.blocks place d.bytes) same1 f.1)

pub returns-in_err-records-clause-bad : goal.returns-in_err-records-clause-bad
returns-in_err-records-clause-bad g c told = λ cause place is.
    let d0 = disk c.args.side (now (g.W.World.log c.args.world.now)) in
    let gate = c.in_ok-gate.gate in
    let same1 : disk c.args.side (now (g.W.World.log c.gate_of.new.world)) ≡ d0 = ap (disk c.args.side) (c.gate_of.ensures.steps told).ends in
    let shows = c.in_ok-gate.ensures.shows told in
    let has : HasRoot c.args.side c.args.blocks d0.bytes gate.root = record { slot = ap d0.bytes shows.selected ∙ shows.holds; good = c.in_ok-gate.ensures.root } in
    let chain = c.in_ok-chain.chain in
    let lies = subst (λ (d : Disk). IsChain gate.root.first gate.root.table_len c.args.blocks chain.blocks chain.text d.bytes) same1 (c.in_ok-chain.ensures.lies told) in
    let met = err_from_is_err_and c.from_residual-in_err-records.result c.from_residual-in_err-records.ensures.1 in
    let gives = met.1 in
    let from = met.2 in
    let same : c.in_err-records.field-0.0 ≡ Bad cause place = cc in
    let f = c.in_err-records.ensures.bad cause place (ap (λ e. Err e) same) in
    subst (λ (k : Cause). Fails c.args.side c.args.blocks d0.bytes k place) (sym f.0) (gate.root, has, chain.blocks, chain.text, lies, subst (λ t. TableBreaksAt c.args.blocks t place) c.as_slice.ensures f.1)

pub returns-in_err-image-clause-bad : goal.returns-in_err-image-clause-bad
returns-in_err-image-clause-bad g c told = λ cause place is.
    let d0 = disk c.args.side (now (g.W.World.log c.args.world.now)) in
    let gate = c.in_ok-gate.gate in
    let same1 : disk c.args.side (now (g.W.World.log c.gate_of.new.world)) ≡ d0 = ap (disk c.args.side) (c.gate_of.ensures.steps told).ends in
    let shows = c.in_ok-gate.ensures.shows told in
    let has : HasRoot c.args.side c.args.blocks d0.bytes gate.root = record { slot = ap d0.bytes shows.selected ∙ shows.holds; good = c.in_ok-gate.ensures.root } in
    let chain = c.in_ok-chain.chain in
    let lies = subst (λ (d : Disk). IsChain gate.root.first gate.root.table_len c.args.blocks chain.blocks chain.text d.bytes) same1 (c.in_ok-chain.ensures.lies told) in
    let table : c.in_ok-table.table.items ≡ chain.blocks = search rules in
    let text : chain.text ≡ table_text c.in_ok-records.records.entries = sym c.as_slice.ensures ∙ c.in_ok-records.ensures.text in
    let on : IsChain gate.root.first gate.root.table_len c.args.blocks c.in_ok-table.table.items (table_text c.in_ok-records.records.entries) d0.bytes
    = subst (λ t. IsChain gate.root.first gate.root.table_len c.args.blocks c.in_ok-table.table.items t d0.bytes) text (subst (λ bs. IsChain gate.root.first gate.root.table_len c.args.blocks bs chain.text d0.bytes) (sym table) lies) in
    let records : HasRecords c.args.side c.args.blocks d0.bytes c.in_ok-table.table.items c.in_ok-records.records.entries = record { root = gate.root; has = has; lies = on; are = c.in_ok-records.ensures.are } in
    let met = err_from_is_err_and c.from_residual-in_err-image.result c.from_residual-in_err-image.ensures.1 in
    let gives = met.1 in
    let from = met.2 in
    let same : c.in_err-image.field-0.0 ≡ Bad cause place = cc in
    ⊎_elim
    (λ (k : cause ≡ Block). subst (λ (k2 : Cause). Fails c.args.side c.args.blocks d0.bytes k2 place) (sym k)
    (c.in_ok-table.table.items, c.in_ok-records.records.entries, records, c.in_err-image.ensures.block place (ap (λ e. Err e) (same ∙ ap (λ (k2 : Cause). Bad k2 place) k))))
    (λ (k : cause ≡ Room). subst (λ (k2 : Cause). Fails c.args.side c.args.blocks d0.bytes k2 place) (sym k)
    (c.in_ok-table.table.items, c.in_ok-records.records.entries, records, (c.in_err-image.ensures.room place (ap (λ e. Err e) (same ∙ ap (λ (k2 : Cause). Bad k2 place) k))).0, (c.in_err-image.ensures.room place (ap (λ e. Err e) (same ∙ ap (λ (k2 : Cause). Bad k2 place) k))).1, (c.in_err-image.ensures.room place (ap (λ e. Err e) (same ∙ ap (λ (k2 : Cause). Bad k2 place) k))).2))
    (c.in_err-image.ensures.causes cause place (ap (λ e. Err e) same))

pub returns-clause-stands : goal.returns-clause-stands
returns-clause-stands g c told = λ stable.
    let d0 = disk c.args.side (now (g.W.World.log c.args.world.now)) in
    let gate = c.in_ok-gate.gate in
    let same1 : disk c.args.side (now (g.W.World.log c.gate_of.new.world)) ≡ d0 = ap (disk c.args.side) (c.gate_of.ensures.steps told).ends in
    let shows = c.in_ok-gate.ensures.shows told in
    let has : HasRoot c.args.side c.args.blocks d0.bytes gate.root = record { slot = ap d0.bytes shows.selected ∙ shows.holds; good = c.in_ok-gate.ensures.root } in
    let chain = c.in_ok-chain.chain in
    let lies = subst (λ (d : Disk). IsChain gate.root.first gate.root.table_len c.args.blocks chain.blocks chain.text d.bytes) same1 (c.in_ok-chain.ensures.lies told) in
    let table : c.in_ok-table.table.items ≡ chain.blocks = search rules in
    let m = c.in_ok-image.image in
    let parts = c.in_ok-image.ensures.parts in
    let text : chain.text ≡ table_text m.records = sym c.as_slice.ensures ∙ c.in_ok-records.ensures.text ∙ ap table_text (sym parts.1) in
    let count : d0.count ≡ length m.used = g.met.W.World.counts told c.args.world.now c.args.side ∙ c.requires.count ∙ sym c.in_ok-image.ensures.count in
    stands_loaded m c.in_ok-image.ensures.sound d0 gate chain.text c.args.blocks count shows parts.3 parts.4
    (subst (λ bs. IsChain gate.root.first gate.root.table_len c.args.blocks bs chain.text d0.bytes) (sym (parts.2 ∙ table)) lies) text stable
