mod VariantLaws
mod Longs
