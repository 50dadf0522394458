-- The run of the plain machine over a list of lines.
use Rattle.std.specs.Prelude.{ℕ, Bool, false, ◌||◌, is_some, List, [], ◌∷◌, ◌++◌}
use Rattle.tm_reply.specs.Replies.{reply_text}
use Rattle.tm_text.specs.declared.line.Line.{Line}
use Rattle.tm_machine.specs.States.{State}
use Rattle.tm_machine.specs.Steps.{reply, refusal, step}

-- the state after all of them
abbrev pub state_after : State → List Line → State
state_after s [] = s
state_after s (l ∷ lines) = state_after (step s l) lines

-- what is said: the texts of the replies, one after the other
abbrev pub said_of : State → List Line → List ℕ
said_of s [] = []
said_of s (l ∷ lines) = reply_text (reply s l) ++ said_of (step s l) lines

-- whether some line is refused
abbrev pub any_refused : State → List Line → Bool
any_refused s [] = false
any_refused s (l ∷ lines) = is_some (refusal s l) || any_refused (step s l) lines
