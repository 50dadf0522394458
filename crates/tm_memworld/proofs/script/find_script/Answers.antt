use Rattle.std.proofs.Common.{◌≡◌, cond, List, [], Some, None, take, sym, ◌∙◌, ap, arith}
use Rattle.std.proofs.lemmas.List.{get_or_read}
use Rattle.std.specs.Option.{option_map, option_or}
use Rattle.std.specs.Str.{bytes_eq}
use Rattle.tm_memworld.specs.Script.{ScriptView, scripts_in, text_at}
use Rattle.tm_memworld.proofs.Scripts.{scripts_in-more}
use Rattle.tm_memworld.proofs.script.find_script.Goals as goal
use Rattle.tm_memworld.proofs.script.find_script.Goals.{then-eq, else-eq}

pub loop-i-preserved : goal.loop-i-preserved
loop-i-preserved c =
    let scripts : List ScriptView = c.args.scripts.now in
    let s : ScriptView = c.index-scripts-i.result in
    let more = scripts_in-more scripts c.loop-i.i s c.args.path.now c.loop-i-test.true c.index-scripts-i.is in
    let tested : bytes_eq s.path c.args.path.now ≡ c.eq.result = ap (λ p. bytes_eq p c.args.path.now) (sym c.path.ensures) ∙ sym c.eq.ensures in
    let text : s.text ≡ text_at scripts c.loop-i.i = ap (λ (t : ScriptView). t.text) (get_or_read scripts c.loop-i.i s c.loop-i-test.true c.index-scripts-i.is (record { path = []; text = [] })) in
    elim c.if-eq.branch [
      | then-eq w ↦ record {
        text = ap (option_map (text_at scripts)) w.found-is ∙ ap Some (sym text) ∙ sym (more ∙ (λ i. option_or (cond ((tested ∙ w.if-eq.true) i) (Some s.text) None) (scripts_in (take c.loop-i.i scripts) c.args.path.now)));
        within = λ k e. let same : c.loop-i.i ≡ k = cc (w.found-is) in omega (arith, c.loop-i-test.true);
      }
      | else-eq w ↦ record {
        text = ap (option_map (text_at scripts)) w.found-is ∙ c.loop-i.invariant.text ∙ sym (more ∙ (λ i. option_or (cond ((tested ∙ w.if-eq.false) i) (Some s.text) None) (scripts_in (take c.loop-i.i scripts) c.args.path.now)));
        within = λ k e. c.loop-i.invariant.within k (sym w.found-is ∙ e);
      }
    ]
