-- The definitions of a trim, by one name.
unfoldable pub use Rattle.entries.specs.Entries.{first_at}
unfoldable pub use Rattle.dictionary.specs.Trim.{fall, trim_voc, trim_vocs, chain, left, link_of, youngest_in, youngest}
