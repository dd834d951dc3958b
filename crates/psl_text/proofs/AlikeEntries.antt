-- One entry of tokens that begin alike.
use Rattle.std.proofs.Common.{ℕ, cond, List, ◌++◌, refl, ap, ◌∙◌}
use Rattle.psl_text.specs.declared.token.Kind.TheVariants as kind
use Rattle.psl_text.specs.declared.token.Token.{Token}
use Rattle.psl_text.specs.declared.tree.Mark.TheVariants as mark
use Rattle.psl_text.specs.declared.tree.Entry.{Entry}
use Rattle.psl_text.specs.declared.tree.Entry.TheVariants as entry
use Rattle.psl_text.specs.declared.tree.Word.{Word}
use Rattle.psl_text.specs.declared.tree.Word.TheVariants as word
use Rattle.psl_text.specs.Parser.{Parser, ◌>>=◌, pure, same_kind, docs_of, eat, expect, name}
use Rattle.psl_text.specs.Grammar.{max_depth, whole_term, block_attribute, attributes, mark_of, setting, field, member, of_block, entry_of}
use Rattle.psl_text.specs.Faults.{MarkStops, SettingStops, FieldStops, MemberStops, OfBlockStops, EntryStops}
use Rattle.psl_text.proofs.Steps.{sign_other}
use Rattle.psl_text.proofs.TermRules.{name_inside, name_self, bracket_inside, bracket_self, close_bracket_inside, close_bracket_self}
use Rattle.psl_text.proofs.EntryRules.{question_inside, question_self, equals_inside, equals_self, at_at_inside, at_at_self, mark_is}
use Rattle.psl_text.proofs.FaultSteps.{misses_sees, sign_spelled}
use Rattle.psl_text.proofs.FaultAttributes.{stop_begins}
use Rattle.psl_text.proofs.FaultFields.{closing, no_question, behind_equals, after_name, behind_member, behind_mark, behind_type}
use Rattle.psl_text.proofs.FaultFields as fields
use Rattle.psl_text.proofs.Alike.{docs_again, Lost, Keeps, Loses, keeps_pure, keeps_bind, keeps_spelled, keeps_expect, keeps_when, taken_spelled, taken_expect, lost_here, lost_later, lost_yes, lost_no, lost_spelled, lost_expect}
use Rattle.psl_text.proofs.AlikeLevels.{term_local}
use Rattle.psl_text.proofs.AlikeAttributes.{block_attribute_keeps, block_attribute_loses, attributes_keep, attributes_lose}

-- ---- marks

mark_keeps : Keeps mark_of
unfolding mark_of
mark_keeps = keeps_when kind.Question question_inside question_self (pure mark.Optional) no_question (keeps_pure mark.Optional)
    (keeps_when kind.OpenBracket bracket_inside bracket_self closing (pure mark.One) (keeps_bind (expect kind.CloseBracket) (λ _. pure mark.Many) (keeps_expect kind.CloseBracket close_bracket_inside close_bracket_self) (λ _. keeps_pure mark.Many)) (keeps_pure mark.One))

mark_loses : Loses mark_of MarkStops
unfolding mark_of same_kind
mark_loses ts us (MarkStops.many {us = next} s m) =
    lost_no kind.Question question_inside question_self (pure mark.Optional) no_question ts us (sign_other kind.OpenBracket kind.Question ts next refl s)
    (lost_yes kind.OpenBracket bracket_inside bracket_self closing (pure mark.One) ts next us s (lost_here (expect kind.CloseBracket) (λ _. pure mark.Many) next us (lost_expect kind.CloseBracket next us m)))

-- ---- settings

setting_keeps : Keeps setting
unfolding setting
setting_keeps = keeps_bind name after_name (keeps_spelled kind.Name name_inside name_self) (λ n. keeps_bind (expect kind.Equals) (λ _. behind_equals n) (keeps_expect kind.Equals equals_inside equals_self)
    (λ _. keeps_bind whole_term (λ v. pure (entry.Setting n v)) (term_local max_depth).keeps (λ v. keeps_pure (entry.Setting n v))))

setting_loses : Loses setting SettingStops
unfolding setting
setting_loses ts us (SettingStops.name m) = lost_here name after_name ts us (lost_spelled kind.Name ts us m)
setting_loses ts us (SettingStops.equals {us = mid} s m) =
    let n = sign_spelled kind.Name ts mid s in
    lost_later name after_name ts n.0 mid us (taken_spelled kind.Name name_inside name_self ts n.0 mid n.1) (lost_here (expect kind.Equals) (λ _. behind_equals n.0) mid us (lost_expect kind.Equals mid us m))
setting_loses ts us (SettingStops.value {us = mid} {vs = next} s q t) =
    let n = sign_spelled kind.Name ts mid s in
    lost_later name after_name ts n.0 mid us (taken_spelled kind.Name name_inside name_self ts n.0 mid n.1)
    (lost_later (expect kind.Equals) (λ _. behind_equals n.0) mid tt next us (taken_expect kind.Equals equals_inside equals_self mid next q)
    (lost_here whole_term (λ v. pure (entry.Setting n.0 v)) next us ((term_local max_depth).loses next us t)))

-- ---- members and fields

module _ (above : List (List ℕ)) where
  member_keeps : Keeps (member above)
  unfolding member
  member_keeps = keeps_bind name (behind_member above) (keeps_spelled kind.Name name_inside name_self) (λ n. keeps_bind attributes (λ found. pure (entry.Member n found above)) attributes_keep (λ found. keeps_pure (entry.Member n found above)))

  member_loses : Loses (member above) MemberStops
  unfolding member
  member_loses ts us (MemberStops.name m) = lost_here name (behind_member above) ts us (lost_spelled kind.Name ts us m)
  member_loses ts us (MemberStops.attributes {us = mid} s d) =
      let n = sign_spelled kind.Name ts mid s in
      lost_later name (behind_member above) ts n.0 mid us (taken_spelled kind.Name name_inside name_self ts n.0 mid n.1) (lost_here attributes (λ found. pure (entry.Member n.0 found above)) mid us (attributes_lose mid us d))

  field_keeps : Keeps (field above)
  unfolding field
  field_keeps = keeps_bind name (fields.behind_name above) (keeps_spelled kind.Name name_inside name_self) (λ n. keeps_bind name (behind_type above n) (keeps_spelled kind.Name name_inside name_self)
      (λ k. keeps_bind mark_of (behind_mark above n k) mark_keeps (λ m. keeps_bind attributes (λ found. pure (entry.Field n k m found above)) attributes_keep (λ found. keeps_pure (entry.Field n k m found above)))))

  field_loses : Loses (field above) FieldStops
  unfolding field same_kind
  field_loses ts us (FieldStops.name m) = lost_here name (fields.behind_name above) ts us (lost_spelled kind.Name ts us m)
  field_loses ts us (FieldStops.type {us = mid} s m) =
      let n = sign_spelled kind.Name ts mid s in
      lost_later name (fields.behind_name above) ts n.0 mid us (taken_spelled kind.Name name_inside name_self ts n.0 mid n.1) (lost_here name (behind_type above n.0) mid us (lost_spelled kind.Name mid us m))
  field_loses ts us (FieldStops.mark {us = mid} {vs = next} s t m) =
      let n = sign_spelled kind.Name ts mid s in
      let k = sign_spelled kind.Name mid next t in
      lost_later name (fields.behind_name above) ts n.0 mid us (taken_spelled kind.Name name_inside name_self ts n.0 mid n.1)
      (lost_later name (behind_type above n.0) mid k.0 next us (taken_spelled kind.Name name_inside name_self mid k.0 next k.1) (lost_here mark_of (behind_mark above n.0 k.0) next us (mark_loses next us m)))
  field_loses ts us (FieldStops.attributes {us = mid} {vs = next} {ws} {m} s t h d) =
      let n = sign_spelled kind.Name ts mid s in
      let k = sign_spelled kind.Name mid next t in
      let at = stop_begins ws us d in
      lost_later name (fields.behind_name above) ts n.0 mid us (taken_spelled kind.Name name_inside name_self ts n.0 mid n.1)
      (lost_later name (behind_type above n.0) mid k.0 next us (taken_spelled kind.Name name_inside name_self mid k.0 next k.1)
      (lost_later mark_of (behind_mark above n.0 k.0) next m ws us (mark_keeps next m ws (mark_is next m ws h (sign_other kind.At kind.Question ws at.0 refl at.1) (sign_other kind.At kind.OpenBracket ws at.0 refl at.1)))
      (lost_here attributes (λ found. pure (entry.Field n.0 k.0 m found above)) ws us (attributes_lose ws us d))))

-- ---- entries

module _ (other : List (List ℕ) → Parser Entry) (OtherStops : List Token → List Token → Type 0) (keeps : (above : List (List ℕ)) → Keeps (other above)) (loses : (above : List (List ℕ)) → Loses (other above) OtherStops) where
  abbrev attribute_of : List (List ℕ) → Parser Entry
  attribute_of above = block_attribute >>= λ found. pure (entry.Block found above)

  -- with these lines of documentation
  abbrev documented : List (List ℕ) → Parser Entry
  documented above = eat kind.AtAt >>= λ is_attribute. cond is_attribute (attribute_of above) (other above)

  of_block_keeps : Keeps (of_block other)
  unfolding of_block
  of_block_keeps ts x us e =
      let above = docs_of ts in
      let t = keeps_when kind.AtAt at_at_inside at_at_self (attribute_of above) (other above) (keeps_bind block_attribute (λ found. pure (entry.Block found above)) block_attribute_keeps (λ found. keeps_pure (entry.Block found above))) (keeps above) ts x us e in
      record { front = t.front; split = t.split; again = λ vs a. ap (λ d. documented d (t.front ++ vs)) (docs_again ts t.front us vs t.split a) ∙ t.again vs a }

  of_block_lost : (ts us : List Token) → Lost (documented (docs_of ts)) ts us → Lost (of_block other) ts us
  unfolding of_block
  of_block_lost ts us l = record {
    front = l.front;
    split = l.split;
    again = λ vs a. let h = l.again vs a in (h.0, ap (λ d. documented d (l.front ++ vs)) (docs_again ts l.front us vs l.split a) ∙ h.1);
  }

  of_block_loses : Loses (of_block other) (OfBlockStops OtherStops)
  of_block_loses ts us (OfBlockStops.attribute {us = next} s a) =
      of_block_lost ts us (lost_yes kind.AtAt at_at_inside at_at_self (attribute_of (docs_of ts)) (other (docs_of ts)) ts next us s (lost_here block_attribute (λ found. pure (entry.Block found (docs_of ts))) next us (block_attribute_loses next us a)))
  of_block_loses ts us (OfBlockStops.other differs d) =
      of_block_lost ts us (lost_no kind.AtAt at_at_inside at_at_self (attribute_of (docs_of ts)) (other (docs_of ts)) ts us (misses_sees kind.AtAt ts differs) (loses (docs_of ts) ts us d))

pub entry_keeps : (w : Word) → Keeps (entry_of w)
unfolding entry_of
entry_keeps word.Datasource = setting_keeps
entry_keeps word.Generator = setting_keeps
entry_keeps word.Model = of_block_keeps field FieldStops field_keeps field_loses
entry_keeps word.Enum = of_block_keeps member MemberStops member_keeps member_loses

pub entry_loses : (w : Word) → Loses (entry_of w) (EntryStops w)
unfolding entry_of EntryStops
entry_loses word.Datasource = setting_loses
entry_loses word.Generator = setting_loses
entry_loses word.Model = of_block_loses field FieldStops field_keeps field_loses
entry_loses word.Enum = of_block_loses member MemberStops member_keeps member_loses
