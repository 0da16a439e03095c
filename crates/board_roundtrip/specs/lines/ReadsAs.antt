-- What is printed is read as the same.
use Rattle.std.specs.Prelude.{◌≡◌, ℕ, Bool, List, [], ◌∷◌, ◌++◌, None, Ok}
use Rattle.board_text.specs.Lines.{line_fault}
use Rattle.board_text.specs.Tokens.{words_of}
use Rattle.board_printer.specs.Lines.{Line, line_text}
use Rattle.board_statements.specs.declared.statement.Statement.{Statement}
use Rattle.board_statements.specs.Statements.{statement_of}

-- the words that are printed are this statement, and so is the line of their text, which ends before its newline; a
-- text may have that line
pub record IsReadAs (wide : Bool) (printed : Line) (statement : Statement) : Type 0 where
  pub words : statement_of wide printed ≡ Ok statement
  pub text : (line : List ℕ) → line_text printed ≡ line ++ 10 ∷ [] → statement_of wide (words_of line) ≡ Ok statement
  pub allowed : (line : List ℕ) → line_text printed ≡ line ++ 10 ∷ [] → line_fault line ≡ None
