-- The page of a code.
use Rattle.std.specs.Prelude.{ℕ, Bool, List}
use Rattle.std.specs.Str.{str_eq_ignore_ascii_case}
use Rattle.program_pages.specs.declared.page.Page.{Page}

-- a page is of this code, in upper or lower case
unfoldable pub has_code : List ℕ → Page → Bool
has_code code page = str_eq_ignore_ascii_case page.code.now code
