-- One datasource with its settings, and a model.
use Rattle.std.specs.Prelude.{ℕ, List, [], ◌∷◌, ◌++◌, Bool, true, false, ◌&&◌, is_some, is_none, map, if◌then◌else◌, Option, Some, None, bytes_eq, codes}
use Rattle.std.specs.List.{list_any, flat_map}
use Rattle.psl_text.specs.declared.tree.Name.{Name}
use Rattle.psl_text.specs.declared.tree.Term.{Term, out-Term}
use Rattle.psl_text.specs.declared.tree.Term.TheOpen.{Term-F}
use Rattle.psl_text.specs.declared.tree.Term.TheOpen as term
use Rattle.psl_text.specs.declared.tree.Argument.{Argument, out-Argument}
use Rattle.psl_text.specs.declared.tree.Entry.{Entry}
use Rattle.psl_text.specs.declared.tree.Entry.TheVariants as entry
use Rattle.psl_text.specs.declared.tree.Block.{Block}
use Rattle.psl_text.specs.declared.tree.Tree.{Tree}
use Rattle.psl_rules.specs.Parts.{Spelling, Places, Setting, place, same_name, datasources, models, settings, text_in}
use Rattle.qe_text.specs.Lists.{repeats}

-- the names of the blocks behind the first, or this place where there is no block
abbrev pub one_of : ℕ → List Block → Places
one_of end [] = end ∷ []
one_of end (block ∷ others) = map (λ block. block.name.at) others

-- V1. There is one datasource. Broken at the names of the others, or at the end of the text.
abbrev pub one_datasource : Tree → Places
one_datasource tree = one_of tree.length (datasources tree)

abbrev pub is_text : Spelling → Option Spelling → Bool
is_text text None = false
is_text text (Some other) = bytes_eq other text

-- `env` of one string
abbrev pub is_variable : List Argument → Bool
is_variable [] = false
is_variable (argument ∷ []) = is_none (out-Argument argument).name && is_some (text_in (out-Argument argument).value)
is_variable (argument ∷ other ∷ others) = false

-- where the database is: a string, or the name of a variable
abbrev pub is_url : Term-F Term Argument → Bool
is_url (term.Text text at) = true
is_url (term.Number text at) = false
is_url (term.Name name) = false
is_url (term.Call name arguments) = bytes_eq name.text (codes "env") && is_variable arguments
is_url (term.List items at) = false

-- a setting of a datasource, with a value that it may have
abbrev pub is_setting : Setting → Bool
is_setting setting =
    if bytes_eq setting.name.text (codes "provider") then is_text (codes "sqlite") (text_in setting.value)
    else (if bytes_eq setting.name.text (codes "relationMode") then is_text (codes "prisma") (text_in setting.value)
    else (bytes_eq setting.name.text (codes "url") && is_url (out-Term setting.value)))

abbrev pub is_setting_named : Spelling → Entry → Bool
is_setting_named name (entry.Setting called value) = bytes_eq called.text name
is_setting_named name (entry.Member called attributes docs) = false
is_setting_named name (entry.Field called type mark attributes docs) = false
is_setting_named name (entry.Block attribute docs) = false

abbrev pub has_setting : Spelling → Block → Bool
has_setting name block = list_any (is_setting_named name) block.entries

abbrev pub setting_names : Block → List Name
setting_names block = map (λ setting. setting.name) (settings block)

-- the place of a setting that a datasource may not have
abbrev pub wrong_setting : Entry → Places
wrong_setting (entry.Setting name value) = if is_setting (record { name = name; value = value }) then [] else name.at ∷ []
wrong_setting (entry.Member name attributes docs) = []
wrong_setting (entry.Field name type mark attributes docs) = []
wrong_setting (entry.Block attribute docs) = []

-- the settings that a datasource may not have, and those that it has twice
abbrev pub wrong_settings : Block → Places
wrong_settings block = flat_map wrong_setting block.entries ++ map place (repeats same_name (setting_names block))

abbrev pub missing_settings : Block → Places
missing_settings block = if has_setting (codes "provider") block && has_setting (codes "relationMode") block then [] else block.name.at ∷ []

-- the first places, or where there are none the others
abbrev pub or_else : Places → Places → Places
or_else [] others = others
or_else (at ∷ places) others = at ∷ places

abbrev pub broken_settings : Block → Places
broken_settings block = or_else (wrong_settings block) (missing_settings block)

-- V2. Each datasource has `provider` and `relationMode` with their one value, may have `url`, and has
-- nothing else and nothing twice. Broken at the settings that are wrong, and where none is, at the
-- name of the block that lacks one.
abbrev pub settings_are_given : Tree → Places
settings_are_given tree = flat_map broken_settings (datasources tree)

-- this place where there is no item
abbrev pub some_of : {A : Type 0} → ℕ → List A → Places
some_of at [] = at ∷ []
some_of at (item ∷ items) = []

-- V3. There is a model. Broken at the end of the text.
abbrev pub has_a_model : Tree → Places
has_a_model tree = some_of tree.length (models tree)
