-- The words of a command.
use Rattle.std.specs.Prelude.{◌≡◌, ◌⊎◌, ℕ, List, [], ◌∷◌, Bool, false, ◌==◌, if◌then◌else◌, Option, Some, None, option_map, bytes_eq, codes}
use Rattle.qe_cli.specs.declared.words.Command.{Command}
use Rattle.qe_cli.specs.declared.words.Command.TheVariants as command

-- whether a word begins with a dash
abbrev pub begins_with_dash : List ℕ → Bool
begins_with_dash [] = false
begins_with_dash (byte ∷ bytes) = byte == 45

-- the command of this name
abbrev pub command_named : List ℕ → Option Command
command_named word = if bytes_eq word (codes "run") then Some command.Run else (if bytes_eq word (codes "validate") then Some command.Validate else (if bytes_eq word (codes "layout") then Some command.Layout else None))

-- the command and the name of the schema's file, where the words are a program's name, a command's
-- name and a word that doesn't begin with a dash
abbrev pub command_of : List (List ℕ) → Option (Command × List ℕ)
command_of (program ∷ name ∷ schema ∷ []) = if begins_with_dash schema then None else option_map (λ command. (command, schema)) (command_named name)
command_of words = None

-- the words are those of this command
abbrev pub Asks : Command → List (List ℕ) → Type 0
Asks command words = (name : List ℕ) × (command_of words ≡ Some (command, name))

-- the words are those of a command that reads the schema alone
abbrev pub ReadsAlone : List (List ℕ) → Type 0
ReadsAlone words = Asks command.Validate words ⊎ Asks command.Layout words
