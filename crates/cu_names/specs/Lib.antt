-- Tables of names, as the lists of their texts.
pub mod Texts
