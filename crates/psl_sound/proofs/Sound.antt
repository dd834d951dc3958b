-- The value of an accepted tree is sound.
use Rattle.std.proofs.Common.{◌≡◌, sym, subst}
use Rattle.psl_text.specs.declared.tree.Tree.{Tree}
use Rattle.psl_rules.specs.Accepted.{IsAccepted}
use Rattle.qe_base.specs.Schemas.{Schema}
use Rattle.qe_schema.specs.Sound.{IsSound}
use Rattle.psl_sound.specs.SchemaOf.{schema_of}
use Rattle.psl_sound.proofs.Chains.{no_cycle_in}
use Rattle.psl_sound.proofs.Distinct.{models_differ, names_in}
use Rattle.psl_sound.proofs.Filled.{columns_suit}
use Rattle.psl_sound.proofs.Identity.{keys_in}
use Rattle.psl_sound.proofs.Ids.{ids_in_tables, names_differ_in}
use Rattle.psl_sound.proofs.Leading.{lead_in}
use Rattle.psl_sound.proofs.Links as links
use Rattle.psl_sound.proofs.Referred.{required_in, keys_behind}
use Rattle.psl_sound.proofs.Relations as relations
use Rattle.psl_sound.proofs.Whole.{small_in, narrow_in, right_in}

pub is_sound : (tree : Tree) → IsAccepted tree → IsSound (schema_of tree)
is_sound tree accepted = record {
  small = small_in tree accepted;
  narrow = narrow_in tree accepted;
  stored = names_differ_in tree accepted;
  models = models_differ tree accepted;
  names = names_in tree accepted;
  keys = keys_in tree accepted;
  ids = ids_in_tables tree accepted;
  refer = right_in tree accepted;
  agree = relations.agree_in tree accepted;
  required = required_in tree accepted;
  behind = keys_behind tree accepted;
  cycles = no_cycle_in tree accepted;
  links = links.agree_in tree accepted;
  link_tables = links.tables_in tree accepted;
  two_columns = links.two_in tree;
  columns = columns_suit tree accepted;
  fields = lead_in tree accepted;
}

-- a schema that is such a value
pub sound_as : (schema : Schema) (tree : Tree) → IsAccepted tree → schema ≡ schema_of tree → IsSound schema
sound_as schema tree accepted value = subst IsSound (sym value) (is_sound tree accepted)
