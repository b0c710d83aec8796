-- The fields of instructions are below 16.
use Rattle.std.proofs.Common.{arith}
use Rattle.f8_spec.specs.Instructions.{InRange}
use Rattle.f8_spec.specs.declared.instructions.Op.{Op}
use Rattle.f8_spec.specs.declared.instructions.Op.TheVariants as op
use Rattle.f8_asm.specs.Listing.{FieldFits, field_of}

pub fields_fit : (what : Op) → InRange what → FieldFits (field_of what)
fields_fit (op.Ds r) within = omega arith
fields_fit (op.LrAR r) within = omega arith
fields_fit (op.LrRA r) within = omega arith
fields_fit (op.As r) within = omega arith
fields_fit (op.Asd r) within = omega arith
fields_fit (op.Xs r) within = omega arith
fields_fit (op.Ns r) within = omega arith
fields_fit (op.Lisu n) within = omega arith
fields_fit (op.Lisl n) within = omega arith
fields_fit (op.Lis n) within = within
fields_fit (op.Ins n) within = omega arith
fields_fit (op.Outs n) within = omega arith
fields_fit (op.Bt t) within = omega arith
fields_fit (op.Bf t) within = within
fields_fit other within = tt
