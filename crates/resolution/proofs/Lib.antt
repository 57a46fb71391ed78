mod SameTexts
mod Adding
mod Positions
mod Declared
mod FormPlaces
