use Rattle.std.proofs.Common.{◌∷◌, [], refl}
use Rattle.std.specs.Option.{option_map_or}
use Rattle.tm_reply.specs.declared.row.ReplyRow.TheVariants as row
use Rattle.tm_text.specs.declared.line.Line.TheVariants as line
use Rattle.tm_tree.specs.Changes.{item_tests}
use Rattle.tm_tree.specs.States.{latest}
use Rattle.tm_world.specs.Log.{now}
use Rattle.tm_machine.specs.Queries.{df_rows, holding_snapshot, latest_path, snapshot_paths, stat_rows, store_rows}
use Rattle.tm_machine.specs.Session.{state_on}
use Rattle.tm_machine.specs.States.{store_in}
use Rattle.tm_machine.specs.Steps.{on_store, place_tests, snapshot_tests, stored_tests}
use Rattle.tm_machine.proofs.QueryLines.{as_plain, query_does, query_open, query_standing, query_fault, clock_does, ls_fault, reading_does}
use Rattle.tm_machine.proofs.Allowing.{did_default}
use Rattle.tm_machine.proofs.Resting.{alike_self, rest_leaves}
use Rattle.tm_machine.proofs.session.Session.changeless.Goals as goal

pub returns-in-At-clause-does : goal.returns-in-At-clause-does
returns-in-At-clause-does g c told =
    let start = g.W.World.log c.args.world.now in
    as_plain c.args.line.now (line.At c.in-At.date) c.args.self.now c.at.new.self start start c.at.result refl c.in-At.is
    (clock_does c.args.self.now c.at.new.self c.in-At.date start c.at.result c.at.ensures (c.requires.standing told))

pub returns-in-Ls-clause-does : goal.returns-in-Ls-clause-does
returns-in-Ls-clause-does g c told =
    let start = g.W.World.log c.args.world.now in
    as_plain c.args.line.now (line.Ls c.in-Ls.path) c.args.self.now c.ls.new.self start start c.ls.result refl c.in-Ls.is
    (query_does _ _ c.args.self.now c.ls.new.self _ start c.ls.result (c.ls.ensures.answer (now start)) c.ls.ensures.alike (c.requires.standing told))

pub returns-in-Ls-clause-standing : goal.returns-in-Ls-clause-standing
returns-in-Ls-clause-standing g c told = query_standing c.args.self.now c.ls.new.self (now (g.W.World.log c.args.world.now)) c.ls.result c.ls.ensures.alike (c.requires.standing told)

pub returns-in-Ls-clause-open : goal.returns-in-Ls-clause-open
returns-in-Ls-clause-open g c =
    query_open c.args.self.now c.ls.new.self (g.W.World.blocks c.args.world.now) c.ls.result c.ls.ensures.alike c.requires.open

pub returns-in-Ls-clause-fault : goal.returns-in-Ls-clause-fault
returns-in-Ls-clause-fault g c side e =
    let start = g.W.World.log c.args.world.now in
    ls_fault c.args.self.now (now start) c.in-Ls.path c.ls.result side (c.ls.ensures.answer (now start)) e

pub returns-in-Cat-clause-does : goal.returns-in-Cat-clause-does
returns-in-Cat-clause-does g c told =
    let start = g.W.World.log c.args.world.now in
    as_plain c.args.line.now (line.Cat c.in-Cat.path) c.args.self.now c.args.self.now start (g.W.World.log c.cat.new.world) c.cat.result refl c.in-Cat.is
    (reading_does _ _ c.args.self.now _ start (g.W.World.log c.cat.new.world) c.cat.result
    (rest_leaves (record { volume_stands = c.standing_volume_is_left.ensures; volume_blank = c.blank_is_left.ensures; store_stands = c.held_reads.ensures; store_blank = c.blank_is_left-2.ensures })
    c.args.self.now (g.W.World.blocks c.args.world.now) (now start) c.requires.open (c.requires.standing told))
    (c.cat.ensures.answer told) (c.cat.ensures.steps told) (c.requires.standing told))

pub returns-in-ListBackups-clause-does : goal.returns-in-ListBackups-clause-does
returns-in-ListBackups-clause-does g c told =
    let start = g.W.World.log c.args.world.now in
    as_plain c.args.line.now line.ListBackups c.args.self.now c.args.self.now start start c.list_backups.result refl c.in-ListBackups.is
    (query_does _ _ c.args.self.now c.args.self.now _ start c.list_backups.result (c.list_backups.ensures (now start)) (alike_self c.args.self.now) (c.requires.standing told))

pub returns-in-ListBackups-clause-fault : goal.returns-in-ListBackups-clause-fault
returns-in-ListBackups-clause-fault g c side e =
    let o = now (g.W.World.log c.args.world.now) in
    let z = store_in (state_on c.args.self.now o).store in
    query_fault (on_store z (λ store. [])) (option_map_or snapshot_paths z []) c.list_backups.result side (c.list_backups.ensures o) e

pub returns-in-LatestBackup-clause-does : goal.returns-in-LatestBackup-clause-does
returns-in-LatestBackup-clause-does g c told =
    let start = g.W.World.log c.args.world.now in
    as_plain c.args.line.now line.LatestBackup c.args.self.now c.args.self.now start start c.latest_backup.result refl c.in-LatestBackup.is
    (query_does _ _ c.args.self.now c.args.self.now _ start c.latest_backup.result (c.latest_backup.ensures (now start)) (alike_self c.args.self.now) (c.requires.standing told))

pub returns-in-LatestBackup-clause-fault : goal.returns-in-LatestBackup-clause-fault
returns-in-LatestBackup-clause-fault g c side e =
    let o = now (g.W.World.log c.args.world.now) in
    let z = store_in (state_on c.args.self.now o).store in
    query_fault (on_store z (λ store. snapshot_tests (latest store))) (option_map_or latest_path z []) c.latest_backup.result side (c.latest_backup.ensures o) e

pub returns-in-MachineDirectory-clause-does : goal.returns-in-MachineDirectory-clause-does
returns-in-MachineDirectory-clause-does g c told =
    let start = g.W.World.log c.args.world.now in
    as_plain c.args.line.now line.MachineDirectory c.args.self.now c.args.self.now start start c.machine_directory.result refl c.in-MachineDirectory.is
    (query_does _ _ c.args.self.now c.args.self.now _ start c.machine_directory.result (c.machine_directory.ensures (now start)) (alike_self c.args.self.now) (c.requires.standing told))

pub returns-in-MachineDirectory-clause-fault : goal.returns-in-MachineDirectory-clause-fault
returns-in-MachineDirectory-clause-fault g c side e =
    let o = now (g.W.World.log c.args.world.now) in
    let z = store_in (state_on c.args.self.now o).store in
    query_fault (on_store z (λ store. [])) (option_map_or (λ store. row.MachineDirectory store.machine ∷ []) z []) c.machine_directory.result side (c.machine_directory.ensures o) e

pub returns-in-StoreLs-clause-does : goal.returns-in-StoreLs-clause-does
returns-in-StoreLs-clause-does g c told =
    let start = g.W.World.log c.args.world.now in
    as_plain c.args.line.now (line.StoreLs c.in-StoreLs.place) c.args.self.now c.args.self.now start start c.store_ls.result refl c.in-StoreLs.is
    (query_does _ _ c.args.self.now c.args.self.now _ start c.store_ls.result (c.store_ls.ensures (now start)) (alike_self c.args.self.now) (c.requires.standing told))

pub returns-in-StoreLs-clause-fault : goal.returns-in-StoreLs-clause-fault
returns-in-StoreLs-clause-fault g c side e =
    let o = now (g.W.World.log c.args.world.now) in
    let z = store_in (state_on c.args.self.now o).store in
    query_fault (on_store z (λ store. place_tests store c.in-StoreLs.place)) (option_map_or (λ store. store_rows store c.in-StoreLs.place) z []) c.store_ls.result side (c.store_ls.ensures o) e

pub returns-in-StoreCat-clause-does : goal.returns-in-StoreCat-clause-does
returns-in-StoreCat-clause-does g c told =
    let start = g.W.World.log c.args.world.now in
    as_plain c.args.line.now (line.StoreCat c.in-StoreCat.item) c.args.self.now c.args.self.now start (g.W.World.log c.store_cat.new.world) c.store_cat.result refl c.in-StoreCat.is
    (reading_does _ _ c.args.self.now _ start (g.W.World.log c.store_cat.new.world) c.store_cat.result
    (rest_leaves (record { volume_stands = c.standing_volume_is_left.ensures; volume_blank = c.blank_is_left.ensures; store_stands = c.held_reads.ensures; store_blank = c.blank_is_left-2.ensures })
    c.args.self.now (g.W.World.blocks c.args.world.now) (now start) c.requires.open (c.requires.standing told))
    (c.store_cat.ensures.answer told) (c.store_cat.ensures.steps told) (c.requires.standing told))

pub returns-in-StoreStat-clause-does : goal.returns-in-StoreStat-clause-does
returns-in-StoreStat-clause-does g c told =
    let start = g.W.World.log c.args.world.now in
    as_plain c.args.line.now (line.StoreStat c.in-StoreStat.item) c.args.self.now c.args.self.now start start c.store_stat.result refl c.in-StoreStat.is
    (query_does _ _ c.args.self.now c.args.self.now _ start c.store_stat.result (c.store_stat.ensures (now start)) (alike_self c.args.self.now) (c.requires.standing told))

pub returns-in-StoreStat-clause-fault : goal.returns-in-StoreStat-clause-fault
returns-in-StoreStat-clause-fault g c side e =
    let o = now (g.W.World.log c.args.world.now) in
    let z = store_in (state_on c.args.self.now o).store in
    let item = c.in-StoreStat.item in
    query_fault (on_store z (λ store. stored_tests item_tests (holding_snapshot store item) item.path)) (option_map_or (λ store. stat_rows store item) z []) c.store_stat.result side (c.store_stat.ensures o) e

pub returns-in-StoreDf-clause-does : goal.returns-in-StoreDf-clause-does
returns-in-StoreDf-clause-does g c told =
    let start = g.W.World.log c.args.world.now in
    as_plain c.args.line.now line.StoreDf c.args.self.now c.args.self.now start start c.store_df.result refl c.in-StoreDf.is
    (query_does _ _ c.args.self.now c.args.self.now _ start c.store_df.result (c.store_df.ensures (now start)) (alike_self c.args.self.now) (c.requires.standing told))

pub returns-in-StoreDf-clause-fault : goal.returns-in-StoreDf-clause-fault
returns-in-StoreDf-clause-fault g c side e =
    let o = now (g.W.World.log c.args.world.now) in
    let z = store_in (state_on c.args.self.now o).store in
    query_fault (on_store z (λ store. [])) (option_map_or (df_rows c.args.self.now.store_blocks) z []) c.store_df.result side (c.store_df.ensures o) e

pub returns-in_default-clause-does : goal.returns-in_default-clause-does
returns-in_default-clause-does g c told =
    let n = c.in_default in
    did_default c.args.line.now c.args.self.now (g.W.World.log c.args.world.now) n.not-At n.not-NewVolume n.not-NewStore n.not-Ls n.not-Cat n.not-StartBackupBlock n.not-ListBackups n.not-LatestBackup
    n.not-MachineDirectory n.not-StoreLs n.not-StoreCat n.not-StoreStat n.not-StoreDf (c.requires.standing told)
