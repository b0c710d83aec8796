-- The table of a document is there, or not.
use Rattle.std.proofs.Common.{◌≡◌, ℕ, Bool, true, false, List, Some, None, Result, Ok, Err, String, string_bytes, refl}
use Rattle.std.specs.Prelude.{IfOk, if◌then◌else◌}
use Rattle.std.specs.Str.{is_utf8, IsUtf8}
use Rattle.std.proofs.lemmas.Str.{IsUtf8-from_is_utf8, IsUtf8-string_bytes, is_utf8-from_IsUtf8}
use Rattle.toml.specs.Data.{Members}
use Rattle.toml.specs.Parse.{parse_document}
use Rattle.loader.specs.declared.refusals.Refusal.TheVariants.{Document}
use Rattle.loader.specs.Readings.{table_told, table_of}

pub table_there : (bytes : List ℕ) (table : Members) → IsUtf8 bytes → parse_document bytes ≡ Some table →
    table_of bytes ≡ Ok table
unfolding table_of
table_there bytes table is read = let t = is_utf8-from_IsUtf8 bytes is in rw (t, read) refl

-- a text that was written as a document reads as its table
pub document_reads : {Z E : Type 0} (text : Result (String Z) E) (table : Members) →
    IfOk text (λ s. parse_document (string_bytes s) ≡ Some table) → IfOk text (λ s. table_of (string_bytes s) ≡ Ok table)
document_reads (Ok s) table reads = table_there (string_bytes s) table (IsUtf8-string_bytes s) reads
document_reads (Err e) table reads = tt

pub no_table : (bytes : List ℕ) → (IsUtf8 bytes → parse_document bytes ≡ None) → table_of bytes ≡ Err Document
unfolding table_of
no_table bytes none = by_test (is_utf8 bytes) refl
  where
    by_test : (b : Bool) → is_utf8 bytes ≡ b →
        (if b then table_told (parse_document bytes) else Err Document) ≡ Err Document
    by_test true e = rw (none (IsUtf8-from_is_utf8 bytes e)) refl
    by_test false e = refl
