-- The parameters of attributes as the tables of the code have them.
use Rattle.std.specs.Prelude.{Bool}
use Rattle.psl_text.specs.declared.tree.Term.{Term}
use Rattle.psl_fields.specs.declared.arguments.Form.{Form}
use Rattle.psl_fields.specs.declared.arguments.Form.TheVariants as form
use Rattle.psl_fields.specs.declared.arguments.Parameter as table
use Rattle.psl_rules.specs.Parts.{is_list_of_names}
use Rattle.psl_rules.specs.Arguments.{Parameter, takes_any, takes_text, takes_name_text, takes_name}

-- the terms of a form
abbrev pub accepts : Form → Term → Bool
accepts form.Any = takes_any
accepts form.Text = takes_text
accepts form.NameText = takes_name_text
accepts form.Name = takes_name
accepts form.Names = is_list_of_names

-- what a row of a table says
abbrev pub parameter_of : table.Parameter → Parameter
parameter_of row = record { name = row.name.now; alone = row.is_alone; needed = row.is_needed; takes = accepts row.form }
