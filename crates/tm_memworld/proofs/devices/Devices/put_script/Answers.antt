use Rattle.std.proofs.Common.{◌≡◌, ◌∙◌, ◌++◌, ◌∷◌, [], List, sym, ap, rules}
use Rattle.tm_memworld.specs.Script.{ScriptView}
use Rattle.tm_memworld.specs.Contents.{view}
use Rattle.tm_memworld.specs.Putting.{with_script}
use Rattle.tm_memworld.specs.Devices.{contents_of}
use Rattle.tm_memworld.proofs.Putting.{now-any, view-script}
use Rattle.tm_memworld.proofs.devices.Devices.put_script.Goals as goal

pub returns-clause-ok : goal.returns-clause-ok
returns-clause-ok c =
    let d = c.args.self.now in
    let script : ScriptView = record { path = c.args.path.now; text = c.args.text.now } in
    let put : c.push.new.self.items ≡ d.scripts.items ++ script ∷ [] = search rules in
    now-any d.changes.items _ _ ∙ ap (λ (xs : List ScriptView). view (record (contents_of d) { scripts = xs })) put ∙ view-script (contents_of d) c.args.path.now c.args.text.now d.script_in
    ∙ ap (with_script c.args.path.now c.args.text.now) (sym (now-any d.changes.items d.began (contents_of d)))
