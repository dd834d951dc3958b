-- Why the connector that a run hands back may be asked for the rows of its schema.
use Rattle.std.proofs.Common.{◌≡◌, ℕ, List, [], ◌∷◌, Option, Some, refl, sym, ap, ◌∙◌, subst}
use Rattle.std.specs.Prelude.{codes, unwrap_or}
use Rattle.qe_base.specs.Outside.{Files, Seen}
use Rattle.qe_base.specs.Schemas.{Schema}
use Rattle.psl_text.proofs.BlockRules.{one_tree_only}
use Rattle.psl_sound.specs.SchemaOf.{schema_of}
use Rattle.qe_view.specs.Attached.{Attached}
use Rattle.qe_view.specs.Layouts.{layout_of}
use Rattle.qe_cli.specs.Asked.{command_of}
use Rattle.qe_cli.specs.Command.{FileHolds, NamesSchema}
use Rattle.qe_cli.specs.Refused.{HasSchema}
use Rattle.qe_cli.specs.declared.words.Command.{Command}
use Rattle.qe_cli.specs.declared.words.Command.TheVariants as command

-- a text has one schema
one_schema : (text : List ℕ) (a b : Schema) → HasSchema text a → HasSchema text b → a ≡ b
one_schema text a b first second = first.3 ∙ ap schema_of (one_tree_only text first.0 second.0 first.1 second.1) ∙ sym second.3

abbrev pub usual_words : List (List ℕ)
usual_words = codes "engine" ∷ codes "run" ∷ codes "schema" ∷ []

abbrev pub one_file : List ℕ → Option Files
one_file text = Some ((codes "schema", text) ∷ [])

usual_run : command_of usual_words ≡ Some (command.Run, codes "schema")
usual_run = refl

-- attached at the place without a name, with the layout of this schema
abbrev pub AttachedTo : Schema → Option Attached → Type 0
AttachedTo schema found = found ≡ Some (record { place = []; layout = layout_of schema })

-- attached for the schema that the words of a run name
abbrev pub AttachedFor : List (List ℕ) → Seen → Option Attached → Type 0
AttachedFor words before found = (schema : Schema) × NamesSchema command.Run words before.files schema × AttachedTo schema found

-- the connector of a run over the one file is attached for the schema of its text
attached_of_usual : (text : List ℕ) (before : Seen) (found : Option Attached) (schema : Schema) → before.files ≡ one_file text → AttachedFor usual_words before found → HasSchema text schema → AttachedTo schema found
attached_of_usual text before found schema one (named_schema, (name, named, holds), is) has =
    let same : name ≡ codes "schema" = ap (λ (o : Option (Command × List ℕ)). (unwrap_or o (command.Run, name)).1) (sym named ∙ usual_run) in
    let here : HasSchema text named_schema = subst (λ n. FileHolds (one_file text) n (λ t. HasSchema t named_schema)) same (subst (λ f. FileHolds f name (λ t. HasSchema t named_schema)) one holds) in
    subst (λ s. AttachedTo s found) (one_schema text named_schema schema here has) is

pub attached_of : (words : List (List ℕ)) (before : Seen) (text : List ℕ) (found : Option Attached) (schema : Schema) → words ≡ usual_words → before.files ≡ one_file text → AttachedFor words before found → HasSchema text schema → AttachedTo schema found
attached_of words before text found schema usual one opened has = attached_of_usual text before found schema one (subst (λ w. AttachedFor w before found) usual opened) has

-- the words ask for a run
pub asks_run : (words : List (List ℕ)) → words ≡ usual_words → (name : List ℕ) × (command_of words ≡ Some (command.Run, name))
asks_run words usual = (codes "schema", ap command_of usual ∙ usual_run)
