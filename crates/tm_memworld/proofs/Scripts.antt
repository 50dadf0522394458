-- Scripts, one after another.
use Rattle.std.proofs.Common.{◌≡◌, ℕ, ◌+◌, ◌<◌, cond, List, [], ◌∷◌, ◌++◌, length, get_or, take, Option, Some, None, refl, sym, ◌∙◌, ap}
use Rattle.std.specs.Option.{option_or}
use Rattle.std.specs.Str.{bytes_eq}
use Rattle.std.proofs.lemmas.List.{take_more}
use Rattle.tm_memworld.specs.Script.{ScriptView, scripts_in}

option_or-assoc : {X : Type 0} (a b c : Option X) → option_or (option_or a b) c ≡ option_or a (option_or b c)
option_or-assoc None b c = refl
option_or-assoc (Some x) b c = refl

option_or-none : {X : Type 0} (a : Option X) → option_or a None ≡ a
option_or-none None = refl
option_or-none (Some x) = refl

-- the last that was put at a path is what stands there
pub scripts_in-push : (scripts : List ScriptView) (s : ScriptView) (path : List ℕ)
    → scripts_in (scripts ++ s ∷ []) path ≡ option_or (cond (bytes_eq s.path path) (Some s.text) None) (scripts_in scripts path)
scripts_in-push [] s path = sym (option_or-none _)
scripts_in-push (r ∷ scripts) s path = ap (λ o. option_or o (cond (bytes_eq r.path path) (Some r.text) None)) (scripts_in-push scripts s path) ∙ option_or-assoc (cond (bytes_eq s.path path) (Some s.text) None) (scripts_in scripts path) _

pub scripts_in-more : (scripts : List ScriptView) (i : ℕ) (s : ScriptView) (path : List ℕ) → i < length scripts → s ≡ get_or scripts i s
    → scripts_in (take (i + 1) scripts) path ≡ option_or (cond (bytes_eq s.path path) (Some s.text) None) (scripts_in (take i scripts) path)
scripts_in-more scripts i s path lt is = ap (λ xs. scripts_in xs path) (take_more scripts i s lt ∙ ap (λ x. take i scripts ++ x ∷ []) (sym is)) ∙ scripts_in-push (take i scripts) s path
