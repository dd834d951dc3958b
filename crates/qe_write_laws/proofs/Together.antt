-- Each single change keeps that the tables fit a sound schema.
use Rattle.std.proofs.Common.{IfSome, ◌≡◌, ℕ, true, false, [], ◌∷◌, Option, Some, None, unwrap_or, option_map, refl, sym, ap, subst, true≢false}
use Rattle.std.specs.Prelude.{is_some, slice_get}
use Rattle.std.proofs.lemmas.Bool.{and_from}
use Rattle.qe_text.specs.Lists.{In}
use Rattle.qe_base.specs.declared.schema.Column.{Column}
use Rattle.qe_base.specs.declared.schema.Link.{Link}
use Rattle.qe_base.specs.declared.value.Row.{Row}
use Rattle.qe_base.specs.declared.value.Value.TheVariants.{Null}
use Rattle.qe_base.specs.Schemas.{Schema, link_of}
use Rattle.qe_schema.specs.Sound.{IsSound}
use Rattle.qe_schema.proofs.Members.{passes, some_same}
use Rattle.qe_schema.specs.References.{kinds_at}
use Rattle.qe_schema.specs.Tables.{column_at, Tables, table_at, id_columns, is_link}
use Rattle.qe_schema.specs.Fits.{fits_column, fit_columns, FitsSchema}
use Rattle.qe_schema.specs.Put.{put_of}
use Rattle.qe_row_laws.specs.Pairs.{FitsLink}
use Rattle.qe_row_laws.proofs.PairOrder.{new_pairs_fit, fewer_pairs_fit}
use Rattle.qe_row_laws.proofs.Puts.{new_rows_fit}
use Rattle.qe_row_laws.proofs.Columns.{ids_are_required_at}
use Rattle.qe_row_laws.proofs.Fitting.{deletes_fit}
use Rattle.qe_schema.specs.Links.{LinksAgree, HasTwoColumns}
use Rattle.qe_write_laws.proofs.Results.{if_accepted}
use Rattle.qe_write_laws.proofs.Columns.{first_fits}
use Rattle.qe_write_laws.proofs.StillFit.{changes_fit}
use Rattle.qe_writing.specs.WriteState.{WriteState}
use Rattle.qe_writing.specs.Delete.{delete_of}
use Rattle.qe_writing.specs.Change.{change_of}
use Rattle.qe_writing.specs.Ways.{no_link, link_at, single_id}
use Rattle.qe_write_laws.specs.Keeps.{row_fits, Keeps}

there_is : (o : Option Link) → is_some o ≡ true → o ≡ Some (unwrap_or o no_link)
there_is None is = absurd (true≢false (sym is))
there_is (Some link) is = refl

if_required : (o : Option Column) → option_map (λ (found : Column). found.optional) o ≡ Some false → IfSome o (λ (found : Column). found.optional ≡ false)
if_required None is = tt
if_required (Some column) is = some_same column.optional false is

module _ (schema : Schema) (is : IsSound schema) where
  -- the id of a row, which is one value, fits a column of its kind
  single_fits : (table : ℕ) (row : Row) (column : Column) (own : Option Column) → own ≡ Some column → row_fits schema table row ≡ true → option_map (λ (found : Column). found.kind) own ∷ [] ≡ kinds_at schema table (id_columns (table_at schema table))
      → fits_column schema.choices column (single_id schema table row) ≡ true
  single_fits table row column own at right kinds =
      first_fits schema table row column own at right Null (id_columns (table_at schema table)) (λ number is_in. if_required (column_at schema table number) (ids_are_required_at schema is table number is_in)) kinds

  both_fit : (number : ℕ) → HasTwoColumns (table_at schema number) → (link : Link) → link_of number schema.links ≡ Some link → (a b : Row) → row_fits schema link.a.0 a ≡ true → row_fits schema link.b.0 b ≡ true → FitsLink schema number (single_id schema link.a.0 a, single_id schema link.b.0 b)
  both_fit number has link at a b a_fits b_fits =
      let agree : LinksAgree schema = is.links in
      let first = single_fits link.a.0 a has.first (column_at schema number 0) (ap (λ columns. slice_get columns 0) has.columns) a_fits (agree.first number link at) in
      let second = single_fits link.b.0 b has.second (column_at schema number 1) (ap (λ columns. slice_get columns 1) has.columns) b_fits (agree.second number link at) in
      subst (λ columns. fit_columns schema.choices columns (single_id schema link.a.0 a ∷ single_id schema link.b.0 b ∷ []) ≡ true) (sym has.columns)
      (and_from (fits_column schema.choices has.first (single_id schema link.a.0 a)) (fit_columns schema.choices (has.second ∷ []) (single_id schema link.b.0 b ∷ [])) first
      (and_from (fits_column schema.choices has.second (single_id schema link.b.0 b)) true second refl))

  fits_there : (tables : Tables) → FitsSchema schema tables → (table : ℕ) (row : Row) → In row (tables.rows table) → row_fits schema table row ≡ true
  fits_there tables fits table row there = passes (row_fits schema table) (tables.rows table) row (fits.kinds table) there

  pub keeps_fitting : Keeps schema (FitsSchema schema)
  keeps_fitting = record {
    rows = λ tables fits. fits.kinds;
    put = λ table row tables model right fits. if_accepted (put_of schema table row tables) (FitsSchema schema) (λ after same. new_rows_fit schema table row tables after fits model right same);
    change = λ table id row state right fits. if_accepted (change_of schema table id row state) (λ (after : WriteState). FitsSchema schema after.tables) (λ after same. changes_fit schema is table id row state after fits right same);
    delete = λ given state there fits. if_accepted (delete_of schema given state) (λ (after : WriteState). FitsSchema schema after.tables) (λ after same. deletes_fit schema is given state after fits same);
    link = λ link a b tables some there_a there_b fits.
        let at : link_of link schema.links ≡ Some (link_at schema link) = there_is (link_of link schema.links) some in
        let kept : is_link schema link ≡ true = is.link_tables link (link_at schema link) at in
        let has : HasTwoColumns (table_at schema link) = is.two_columns link kept in
        new_pairs_fit schema link (single_id schema (link_at schema link).a.0 a, single_id schema (link_at schema link).b.0 b) tables fits kept
        (both_fit link has (link_at schema link) at a b (fits_there tables fits (link_at schema link).a.0 a there_a) (fits_there tables fits (link_at schema link).b.0 b there_b));
    unlink = λ link pair tables fits. fewer_pairs_fit schema link pair tables fits;
  }
