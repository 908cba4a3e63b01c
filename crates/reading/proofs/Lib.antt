mod Found
mod Named
mod FloatBytes
mod Truths
mod Quotes
mod Colons
