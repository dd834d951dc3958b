-- A line's answer, by what its reading and its operation gave.
use Rattle.std.proofs.Common.{◌≡◌, ℕ, List, [], ◌∷◌, ◌++◌, refl, sym, ap, ◌∙◌, subst, inl, inr, is_err, Option}
use Rattle.std.specs.Prelude.{Result, Err}
use Rattle.qe_base.specs.Outside.{Seen}
use Rattle.qe_base.specs.Schemas.{Schema}
use Rattle.qe_base.specs.declared.outside.Failed.{Failed}
use Rattle.qe_base.specs.declared.write.Op.{Op}
use Rattle.qe_forms.specs.Request.{asked_of, asks, not_json, unbuilt, Asked}
use Rattle.qe_forms.specs.Reply.{not_json_text, unbuilt_text, memory_text}
use Rattle.qe_history.specs.Exchange.{told, entered, ComesOf}
use Rattle.qe_node.specs.Port.{WritesAll}
use Rattle.qe_node.specs.Serving.{Enters, fault_text, text_or_memory}
use Rattle.qe_node.specs.Taking.{Takes}
use Rattle.qe_node.proofs.Led.{entered_text, leads_told}
use Rattle.qe_node.proofs.Wrote.{line_written}
use Rattle.qe_request.specs.declared.lines.LineFault.{LineFault}
use Rattle.qe_request.specs.declared.lines.LineFault.TheVariants as lines
use Rattle.qe_view.specs.Attached.{Connected}

memory_comes : (a : Asked) → ComesOf a (told memory_text)
memory_comes not_json = inr refl
memory_comes unbuilt = inr refl
memory_comes (asks op) = refl

-- a line that has no operation, by why it has none
fault_told : (schema : Schema) (line : List ℕ) (why : LineFault) (read : Result Op LineFault) → read ≡ Err why → (read ≡ Err lines.NotJson → asked_of schema line ≡ not_json) → (read ≡ Err lines.Unbuilt → asked_of schema line ≡ unbuilt)
    → ComesOf (asked_of schema line) (told (fault_text why))
fault_told schema line lines.NotJson read is none unread = subst (λ a. ComesOf a (told not_json_text)) (sym (none is)) (inl refl)
fault_told schema line lines.Unbuilt read is none unread = subst (λ a. ComesOf a (told unbuilt_text)) (sym (unread is)) (inl refl)
fault_told schema line lines.Memory read is none unread = memory_comes (asked_of schema line)

-- a line that isn't entered
pub told_takes : (schema : Schema) (line : List ℕ) (why : LineFault) (read : Result Op LineFault) (below : Connected) (place : ℕ) (before now : Seen) (bytes : List ℕ) (result : Result (Unit {0}) Failed) → read ≡ Err why
    → (read ≡ Err lines.NotJson → asked_of schema line ≡ not_json) → (read ≡ Err lines.Unbuilt → asked_of schema line ≡ unbuilt) → bytes ≡ fault_text why ++ 10 ∷ [] → WritesAll before now bytes result
    → Takes (is_err result) schema (line ∷ []) below below place place before now
told_takes schema line why read below place before now bytes result is none unread bytes_is writes = record {
  outcomes = told (fault_text why) ∷ [];
  come = (fault_told schema line why read is none unread, tt);
  leads = leads_told schema (fault_text why) below place;
  wrote = λ stood. line_written result schema (told (fault_text why)) before now bytes bytes_is writes;
}

-- a line that is entered
pub entered_takes : (schema : Schema) (line : List ℕ) (op : Op) (text : Option (List ℕ)) (below : Connected) (place : ℕ) (after : Connected) (next : ℕ) (before now : Seen) (result : Result (Unit {0}) Failed) → asked_of schema line ≡ asks op
    → Enters schema op text below place after next → WritesAll before now (text_or_memory text ++ 10 ∷ []) result → Takes (is_err result) schema (line ∷ []) below after place next before now
entered_takes schema line op text below place after next before now result is enters writes = record {
  outcomes = entered op enters.reply ∷ [];
  come = (subst (λ a. ComesOf a (entered op enters.reply)) (sym is) refl, tt);
  leads = enters.leads;
  wrote = λ stood. line_written result schema (entered op enters.reply) before now (text_or_memory text ++ 10 ∷ [])
      (ap (λ t. text_or_memory t ++ 10 ∷ []) enters.text_is ∙ ap (λ t. t ++ 10 ∷ []) (entered_text schema op enters.reply below place after next stood enters.leads)) writes;
}
