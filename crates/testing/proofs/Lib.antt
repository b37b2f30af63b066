mod Laws
