-- The functions of a file: symbols that name words of text.
use Rattle.std.specs.Prelude.{◌≡◌, ◌≢◌, ℕ, zero, suc, ◌/◌, Bool, true, false, ◌&&◌, nat_eq, bit_and, if◌then◌else◌, List, [], ◌∷◌, ◌++◌, Option, Some, None}
use Rattle.std.specs.Option.{unwrap_or}
use Rattle.std.specs.List.{list_any}
use Rattle.sq_elf.specs.declared.section.Section.{Section}
use Rattle.sq_elf.specs.declared.text.Text.{Text}
use Rattle.sq_elf.specs.Reading.{contents_of}
use Rattle.sq_elf.specs.Text.{text_of, is_text_word}
use Rattle.sq_names.specs.declared.symbol.Symbol.{Symbol}
use Rattle.sq_names.specs.Symbols.{symbol_table_of, is_readable, symbol_at, is_zero, string_at}

-- a function: the address of its first word, and the bytes of its name
pub record NamedFunction : Type 0 where
  pub value : ℕ
  pub name : List ℕ

-- a function, STT_FUNC in the low four bits of st_info, whose value is the address of a word of text
abbrev pub is_function : Text → Symbol → Bool
is_function text symbol = nat_eq (bit_and symbol.info 15) 2 && is_text_word text symbol.value

-- a function has a name of at least one byte
abbrev pub named : ℕ → Option (List ℕ) → Option NamedFunction
named value None = None
named value (Some []) = None
named value (Some (first ∷ others)) = Some (record { value = value; name = first ∷ others })

-- what a symbol names, by the string table of its symbol table
abbrev pub function_of : Text → List ℕ → Symbol → Option NamedFunction
function_of text strings symbol = if is_function text symbol then named symbol.value (string_at strings symbol.name) else None

-- the string table of a symbol table: the contents of the section of number sh_link; empty where there are none
abbrev pub strings_of : List ℕ → Section → List ℕ
strings_of bytes table = unwrap_or (contents_of bytes table.link) []

abbrev pub function_at : List ℕ → Section → ℕ → Option NamedFunction
function_at bytes table number = function_of (text_of bytes) (strings_of bytes table) (symbol_at bytes table number)

-- the functions, and one more where there is one
abbrev pub followed : List NamedFunction → Option NamedFunction → List NamedFunction
followed functions None = functions
followed functions (Some function) = functions ++ function ∷ []

-- those that the first so many symbols of a table name
unfoldable pub functions_before : List ℕ → Section → ℕ → List NamedFunction
functions_before bytes table zero = []
functions_before bytes table (suc count) = followed (functions_before bytes table count) (function_at bytes table count)

-- those of a table: none where it can't be read
abbrev pub functions_in : List ℕ → Option Section → List NamedFunction
functions_in bytes None = []
functions_in bytes (Some table) = if is_readable bytes table then functions_before bytes table (table.size / 16) else []

-- THE functions of a file, in the order of their symbols
abbrev pub functions_of : List ℕ → List NamedFunction
functions_of bytes = functions_in bytes (symbol_table_of bytes)

-- what is promised of each: its value is the address of a word of text, and its name some bytes of which none is zero
pub record IsNamedIn (text : Text) (function : NamedFunction) : Type 0 where
  pub word : is_text_word text function.value ≡ true
  pub some : function.name ≢ []
  pub ended : list_any is_zero function.name ≡ false
