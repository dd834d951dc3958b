use Rattle.std.proofs.Common.{◌≡◌, true, false, subst, sym, arith}
use Rattle.std.proofs.lemmas.Grind.{common_steps}
use Rattle.std.specs.Prelude.{IsUtf8}
use Rattle.psl_text.specs.Lex.{unescaped}
use Rattle.psl_text.proofs.Escapes.{step_escaped, step_backslash, step_plain, all_stand, unescaped_is_utf8}
use Rattle.psl_text.proofs.lexer.unescaped.Goals as goal

pub loop-byte-preserved : goal.loop-byte-preserved
loop-byte-preserved c = grind (arith, common_steps, step_escaped, step_backslash, step_plain)

pub unreachable-requires : goal.unreachable-requires
unreachable-requires c =
    let z = c.as_bytes-byte-items.result.now in
    let whole = all_stand c.loop-byte.bytes.items z (unescaped false z) c.loop-byte.byte-index c.loop-byte.is_escaped (omega arith) c.loop-byte.invariant in
    let text : IsUtf8 c.loop-byte.bytes.items = subst IsUtf8 (sym whole) (unescaped_is_utf8 c.as_bytes-byte-items.result.now c.as_bytes-byte-items.ensures.utf8) in
    let fails : false ≡ true = c.in-Err.ensures.succeeds text in
    cc

pub returns : goal.returns
returns c =
    let z = c.as_bytes-byte-items.result.now in
    let whole = all_stand c.loop-byte.bytes.items z (unescaped false z) c.loop-byte.byte-index c.loop-byte.is_escaped (omega arith) c.loop-byte.invariant in
    grind (arith, common_steps, whole)
