-- Contents whose streams are borrowed.
use Rattle.msi_container_format.specs.declared.contents.Contents.{Contents}
use Rattle.msi_container_write.specs.declared.parts.BorrowedContents.{BorrowedContents}

abbrev pub contents_of : BorrowedContents → Contents
contents_of b = record { clsid = b.clsid; streams = b.streams.now; has_storages = b.has_storages }
