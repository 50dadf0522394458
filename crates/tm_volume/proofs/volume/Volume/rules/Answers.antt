use Rattle.std.proofs.Common.{◌≡◌, ◌+◌, [], cond, sym, subst}
use Rattle.tm_image.specs.Reads.{data_len}
use Rattle.tm_image.specs.Room.{free_of, table_len}
use Rattle.tm_volume.specs.Seen.{Seen, IsReady}
use Rattle.tm_volume.proofs.Rooms.{free_here}
use Rattle.tm_volume.proofs.volume.Volume.rules.Goals as goal

pub returns-clause-room : goal.returns-clause-room
returns-clause-room c = λ blocks ready.
    let m : Seen = record { image = c.self.inside.image; head = c.self.inside.head; fixed = c.self.inside.fixed; tag = record { clean = cond c.self.inside.clean 1 0; generation = c.self.inside.generation; next = c.self.inside.next }; looks = c.self.inside.looks } in
    let here : IsReady m blocks = subst (λ (s : Seen). IsReady s blocks) (sym c.self.view_is) ready in
    subst (λ (s : Seen). free_of s.image + 3 + table_len s.image.records + data_len s.image.records ≡ blocks) c.self.view_is
    (free_here m blocks c.free.result here c.total.ensures.sound c.free.ensures.free (c.free.ensures.rule [] (λ b. sym (here.unstaged b))))
